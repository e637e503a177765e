pub mod FrameFirst
pub mod ReadBack
