pub mod HeadViews
pub mod PartView
pub mod ItemParts
pub mod PartRefusal
