-- Laws of the values of patterns and of upward rounding, over any format.
pub mod ValueLaws
pub mod SignLaws
pub mod UpLaws
pub mod ToldLaws
