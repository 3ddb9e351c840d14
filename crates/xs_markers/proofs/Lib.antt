mod Bodies
mod Joined
mod Packed
mod Cut
mod Pieces
mod FieldsRead
mod Refusals
mod Weights
mod Accepted
mod TakenTable
mod KindsTold
mod OneStep
mod Fine
mod Tables
mod Found
mod HeaderRead
mod SaidOf
mod Left
mod HeaderSeen
mod BoxesFound
pub mod UnitsKnown
pub mod Steps
