pub mod ExitLaws
