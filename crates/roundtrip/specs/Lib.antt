pub mod RoundTrip
pub mod parts
