pub mod Copy
pub mod EncodedDecodes
pub mod RoundTrip
