-- the texts, and which text is of what
pub mod ListTexts
-- what stands in front of a text
pub mod Fronts
-- what programs that read such a text share: their words, and what they write of a refused text
pub mod Limits
pub mod Refusals
