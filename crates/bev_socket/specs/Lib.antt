pub mod Results
pub mod Rooms
