-- How many of the ellipses right around a template the names in it drive.
use Rattle.std.specs.Prelude.{ℕ, ◌-◌, Bool, ◌&&◌, max, nat_eq, if◌then◌else◌}
use Rattle.rdx_lang.specs.Templates.{Template, lit, var, fill, call, host, seq, Items, nil, one, many, Host, term, number, boolean, apply, both, either, Hosts, none, more}

-- around the list that an item stands in, by how many it drives around itself: its own ellipsis is one of them
abbrev pub outside : Bool → ℕ → ℕ
outside repeated n = if repeated then n - 1 else n

abbrev mutual
  -- around a template: as many as the name does that drives most
  pub reach : Template → ℕ
  reach (lit t) = 0
  reach (var x d) = d
  reach (fill c t) = max (reach c) (reach t)
  reach (call f ts) = reach_among ts
  reach (host h) = reach_in h
  reach (seq ts) = reach_among ts

  -- around items
  pub reach_among : Items → ℕ
  reach_among nil = 0
  reach_among (one t ts) = max (reach t) (reach_among ts)
  reach_among (many t ts) = max (reach t - 1) (reach_among ts)

  -- around a host expression
  pub reach_in : Host → ℕ
  reach_in (term t) = reach t
  reach_in (number n) = 0
  reach_in (boolean b) = 0
  reach_in (apply op hs) = reach_in_all hs
  reach_in (both hs) = reach_in_all hs
  reach_in (either hs) = reach_in_all hs

  -- around host expressions
  pub reach_in_all : Hosts → ℕ
  reach_in_all none = 0
  reach_in_all (more h hs) = max (reach_in h) (reach_in_all hs)

-- an ellipsis stands behind an item that drives none
abbrev pub is_undriven : Bool → ℕ → Bool
is_undriven repeated n = repeated && nat_eq n 0
