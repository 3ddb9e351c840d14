mod Made
mod Both
