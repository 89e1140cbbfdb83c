pub mod OneLink
