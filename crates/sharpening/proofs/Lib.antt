pub mod SharpLaws
