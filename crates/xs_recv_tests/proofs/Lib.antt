mod Packable
mod Small
