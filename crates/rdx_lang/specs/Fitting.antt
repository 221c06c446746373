-- When a template fits the names that are bound where it stands. A name of depth d under some ellipses takes turns with the innermost d of
-- them: it drives these. So it needs d of them at least, and each ellipsis needs a name that drives it.
use Rattle.std.specs.Prelude.{ℕ, suc, Bool, true, false, not, ◌&&◌, ◌||◌, List, nat_lt}
use Rattle.rdx_lang.specs.Templates.{Template, lit, var, fill, call, host, seq, Items, nil, one, many, Host, term, number, boolean, apply, both, either, Hosts, none, more}

-- which names are bound, and at which depths
abbrev pub Bound : Type 0
Bound = List ℕ → ℕ → Bool

-- which names are those of metafunctions
abbrev pub Called : Type 0
Called = List ℕ → Bool

abbrev mutual
  -- a name in the template drives the ellipsis around it and around k more inside it
  pub drives : ℕ → Template → Bool
  drives k (lit t) = false
  drives k (var x d) = nat_lt k d
  drives k (fill c t) = drives k c || drives k t
  drives k (call f ts) = drive k ts
  drives k (host h) = drives_in k h
  drives k (seq ts) = drive k ts

  -- a name in the items does
  pub drive : ℕ → Items → Bool
  drive k nil = false
  drive k (one t ts) = drives k t || drive k ts
  drive k (many t ts) = drives (suc k) t || drive k ts

  -- a name in the host expression does
  pub drives_in : ℕ → Host → Bool
  drives_in k (term t) = drives k t
  drives_in k (number n) = false
  drives_in k (boolean b) = false
  drives_in k (apply op hs) = drive_in k hs
  drives_in k (both hs) = drive_in k hs
  drives_in k (either hs) = drive_in k hs

  -- a name in the host expressions does
  pub drive_in : ℕ → Hosts → Bool
  drive_in k none = false
  drive_in k (more h hs) = drives_in k h || drive_in k hs

abbrev mutual
  -- the template, around which k ellipses stand, fits where these names are bound: each name in it is, at the depth that it carries, and
  -- under as many ellipses at least; each ellipsis is driven; and each call is one of a metafunction
  pub fits : Called → Bound → ℕ → Template → Bool
  fits F B k (lit t) = true
  fits F B k (var x d) = B x d && not (nat_lt k d)
  fits F B k (fill c t) = fits F B k c && fits F B k t
  fits F B k (call f ts) = F f && fit F B k ts
  fits F B k (host h) = fits_in F B k h
  fits F B k (seq ts) = fit F B k ts

  -- the items do
  pub fit : Called → Bound → ℕ → Items → Bool
  fit F B k nil = true
  fit F B k (one t ts) = fits F B k t && fit F B k ts
  fit F B k (many t ts) = drives 0 t && (fits F B (suc k) t && fit F B k ts)

  -- the templates in a host expression do
  pub fits_in : Called → Bound → ℕ → Host → Bool
  fits_in F B k (term t) = fits F B k t
  fits_in F B k (number n) = true
  fits_in F B k (boolean b) = true
  fits_in F B k (apply op hs) = fit_in F B k hs
  fits_in F B k (both hs) = fit_in F B k hs
  fits_in F B k (either hs) = fit_in F B k hs

  -- those in host expressions do
  pub fit_in : Called → Bound → ℕ → Hosts → Bool
  fit_in F B k none = true
  fit_in F B k (more h hs) = fits_in F B k h && fit_in F B k hs
