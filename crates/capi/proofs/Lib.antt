pub mod InstantLaws
pub mod ProposalLaws
