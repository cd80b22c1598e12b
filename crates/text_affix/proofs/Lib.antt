pub mod Affixes
