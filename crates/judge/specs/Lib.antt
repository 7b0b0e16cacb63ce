pub mod Judgement
pub mod JudgementLaws
pub mod Refusals
