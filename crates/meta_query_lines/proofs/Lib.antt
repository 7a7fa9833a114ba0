mod QuestionLemmas
pub mod InferenceLemmas
mod FormLemmas
mod QueryLemmas
mod AnswerLemmas
mod SettingLines
mod LineParts
mod Meant
mod OneInference
mod OneList
mod OneOutput
mod ListedLemmas
mod TextLemmas
mod SoughtLemmas
mod RequestLemmas
mod ExplanationLemmas
pub mod TableReplies
mod AddedLemmas
mod OneExplanation
mod OneExplainedOutput
mod AcceptedExplained
