pub mod PathLaws
pub mod PeerLaws
pub mod PlaceLaws
pub mod StageLaws
pub mod EndedLaws
pub mod SweepLaws
pub mod KeyLaws
pub mod ListLaws
