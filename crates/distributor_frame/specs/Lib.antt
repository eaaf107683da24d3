pub mod DistributorFrame
