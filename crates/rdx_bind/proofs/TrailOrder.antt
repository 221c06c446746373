-- The order of the code's paths: that paths which it does not tell apart are equal.
use Rattle.std.proofs.Common.{◌≡◌, ◌∙◌, ◌∷◌, refl, sym}
use Rattle.std.specs.declared.cmp.Ordering.{Ordering}
use Rattle.std.specs.declared.cmp.Ordering.TheVariants.{Less, Equal, Greater}
use Rattle.std.specs.Ordering.{nat_cmp, ordering_then}
use Rattle.std.proofs.lemmas.Map.Lookups.{exact_unsigned}
use Rattle.rdx_bind.specs.Trails.{trail_of}
use Rattle.rdx_bind.specs.declared.trail.Trail.{Trail, Here, Within'}
use Rattle.rdx_bind.specs.declared.trail.Trail.TheBlock.{the_members, the_family, the_depth, member-Trail, member-Step}
use Rattle.rdx_bind.specs.declared.trail.Step.{Step}
use Rattle.rdx_bind.specs.contracts.trail.TrailOrd.TheImpl.{cmp-value, the_step}
use Rattle.rdx_bind.specs.contracts.trail.TrailOrd.TheImpl.Laws.{local}
use denote.Hole.Compared.{compared, compared_is}

-- where two comparisons in a row tie, both do
pub both_tie : (o r : Ordering) → ordering_then o r ≡ Equal → (o ≡ Equal) × (r ≡ Equal)
both_tie Less r e = absurd cc
both_tie Equal r e = (refl, e)
both_tie Greater r e = absurd cc

-- the comparison that is derived, of paths and of steps
abbrev compares : (m : the_members) → the_family m → the_family m → Ordering
compares = compared the_members the_family the_depth Ordering Equal the_step

-- paths that tie do so by their steps
tied_trails : (x y : Trail) → cmp-value.it x y ≡ Equal → the_step compares member-Trail x y ≡ Equal
tied_trails x y e = sym (compared_is the_members the_family the_depth Ordering Equal the_step local member-Trail x y) ∙ e

-- steps that tie do so by what they hold
tied_steps : (x y : Step) → compares member-Step x y ≡ Equal
    → ordering_then (nat_cmp x.digest y.digest) (ordering_then (nat_cmp x.place y.place) (cmp-value.it x.rest y.rest)) ≡ Equal
tied_steps x y e = sym (compared_is the_members the_family the_depth Ordering Equal the_step local member-Step x y) ∙ e

-- paths that are not told apart are equal
pub trail_cmp-tells : (x y : Trail) → cmp-value.it x y ≡ Equal → trail_of x ≡ trail_of y
trail_cmp-tells Here Here e = refl
trail_cmp-tells Here (Within' r m j u) e = let f : Less ≡ Equal = tied_trails Here (Within' r m j u) e in absurd cc
trail_cmp-tells (Within' q l k t) Here e = let f : Greater ≡ Equal = tied_trails (Within' q l k t) Here e in absurd cc
trail_cmp-tells (Within' q l k t) (Within' r m j u) e =
    let x : Step = record { digest = l; place = k; rest = t } in
    let y : Step = record { digest = m; place = j; rest = u } in
    let more = both_tie (nat_cmp l m) (ordering_then (nat_cmp k j) (cmp-value.it t u)) (tied_steps x y (tied_trails (Within' q l k t) (Within' r m j u) e)) in
    let both = both_tie (nat_cmp k j) (cmp-value.it t u) more.1 in
    let n : k ≡ j = exact_unsigned k j both.0 in
    let ks : trail_of t ≡ trail_of u = trail_cmp-tells t u both.1 in
    λ i. n i ∷ ks i
