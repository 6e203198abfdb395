-- What the contract of a turn cites: the room that it needs, and what it leaves in its buffers.
pub mod Buffers
