pub mod Quant
pub mod Bytes
pub mod Pad
