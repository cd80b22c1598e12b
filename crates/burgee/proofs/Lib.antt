pub mod PolicyWords
