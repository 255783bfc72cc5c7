pub mod RowLaws
pub mod SelectLaws
pub mod PartLaws
pub mod DecodeLaws
pub mod RoomLaws
pub mod ShapeLaws
pub mod LoadLaws
