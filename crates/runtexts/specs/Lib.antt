pub mod RunText
pub mod parts
