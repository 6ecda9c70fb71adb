-- The font, and the ten dots of a character.
pub mod Font
pub mod Laws
