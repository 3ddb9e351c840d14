pub mod RawPictures
pub mod RowRanges
