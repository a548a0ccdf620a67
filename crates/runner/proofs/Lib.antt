pub mod RanBy
