pub mod LineCuts
pub mod PlainText
pub mod PointCuts
pub mod RootLemmas
pub mod SignedText
pub mod WholeText
mod Examples
