-- Binding forms: which places of a list are binders, and which refer to them. After the Redex reference, "Binding Forms", and Stansifer and
-- Wand, "Romeo: a system for more flexible binding-safe programming" (ICFP 2014), of which this is the part without exports and without
-- binders in deeper lists.
use Rattle.std.specs.Prelude.{ℕ, List}

-- A place behind the head of a form: one binder; a list of binders; a place with which nothing is bound; or a body, which binds the names
-- that stand in these places, counted from 0.
pub data Place : Type 0 where
  binder : Place
  binders : Place
  plain : Place
  body : List ℕ → Place

-- the symbol that stands first, and what stands behind it
pub record Form : Type 0 where
  pub head : List ℕ
  pub places : List Place
