pub mod Reserved
pub mod Room
pub mod Made
pub mod Results
