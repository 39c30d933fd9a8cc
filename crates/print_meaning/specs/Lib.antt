pub mod RenumberedLaws
