pub mod AllowedRows
pub mod SameLamp
