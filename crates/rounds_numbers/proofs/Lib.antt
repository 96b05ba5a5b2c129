pub mod RoundsNumberLaws
