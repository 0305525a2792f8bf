pub mod NodeAnswers
pub mod WiderFacts
pub mod SortFacts
