pub mod Affix
