pub mod VerdictLines
pub mod CertificateTexts
pub mod DrawnTexts
pub mod Cases
pub mod Judgements
pub mod Laws
