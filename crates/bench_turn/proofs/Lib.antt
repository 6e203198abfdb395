-- Laws of bytes that are put at a place, of chunks of requests, and of a turn on two buffers.
pub mod PutLaws
pub mod ChunkLaws
pub mod TurnLaws
