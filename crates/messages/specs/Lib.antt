pub mod CodeBasis
pub mod MessageRules
