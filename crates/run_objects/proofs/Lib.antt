pub mod KeepLaws
pub mod MethodStops
pub mod NoticeLaws
pub mod SystemLaws
pub mod WithLaws
