-- The names that come again in a form of a relation are told by the texts that come before them, without the symbols that are bound before each place.
use Rattle.std.proofs.Common.{◌≡◌, ◌++◌, ◌∙◌, ℕ, Bool, true, false, List, [], ◌∷◌, map, refl, sym, ap, subst, if◌then◌else◌}
use Rattle.std.proofs.lemmas.List.{append_assoc, append-nil, map-append}
use Rattle.std.specs.List.{list_any}
use Rattle.std.specs.Prelude.{◌||◌, Option, Some, None, bytes_eq}
use Rattle.rdx_sexp.specs.Sexp.{Sexp}
use Rattle.rdx_patterns.specs.Kinds.{is_among}
use Rattle.rdx_patterns.specs.Parts.{text_of}
use Rattle.rdx_patterns.specs.PatternChecks as patterns
use Rattle.rdx_patterns.specs.PatternChecks.{when}
use Rattle.rdx_templates.specs.Bound.{Bound}
use Rattle.rdx_parts.specs.Arguments.{Arguments, is_misfit, data_at, patterns_in}
use Rattle.rdx_parts.specs.ExtraForms.{ExtraForm, such_that, provided, confirmed, holding, freshly, name, no_extra, ExtraPlace, of_case, form_at}
use Rattle.rdx_parts.specs.Headed.{Headed, headed}
use Rattle.rdx_parts.specs.NamesAgain.{texts_bound, name_again, bound_with, names_again}
use Rattle.rdx_relations.specs.RelationForms.{CaseForm, case_form, RelationForm}
use Rattle.rdx_relations.specs.RelationStands.{case_stands, cases_stand, domain_stands, expanded_stands, arrows_stand, shortcut_stands, arrows_with, shortcuts_stand}
use Rattle.rdx_templates.specs.Scope.{Scope, mode_of}
use Rattle.rdx_relations.specs.Shorthand.{Shortcut, shortcut_form, is_known_arrow}
use Rattle.rdx_parts.specs.StandChecks.{is_bound_as, repeated_name, names_with, repeated_names}
use Rattle.rdx_parts.specs.Stands.{Stand, misshaped, function, judgement, asked, arrow, pattern, template, condition, plain, misfit, fresh, named, repeated, bound_in, names_bound, bound_by_patterns, flagged_stand, plain_argument, arguments_by, arguments_stand, misfits, premise_arguments, held_stands, bound_by_premise, bound_freshly, fresh_stands, bound_by_extra, extra_stands, is_named, extras_stand}

-- ---- things that know which texts are bound before them

-- the symbols that a name to be made has before it have these texts
abbrev Knows : List (List ℕ) → Stand → Type 0
Knows bound (misshaped d) = Unit {0}
Knows bound (function d) = Unit {0}
Knows bound (judgement d) = Unit {0}
Knows bound (asked d) = Unit {0}
Knows bound (arrow d) = Unit {0}
Knows bound (pattern bs os) = Unit {0}
Knows bound (template bs t) = Unit {0}
Knows bound (condition bs h) = Unit {0}
Knows bound (plain os) = Unit {0}
Knows bound (misfit d n) = Unit {0}
Knows bound (fresh bs d) = texts_bound bs ≡ bound
Knows bound (named again d) = Unit {0}
Knows bound (repeated d) = Unit {0}

-- a symbol is bound where its text is among theirs
bound-text : (d : Sexp) (bs : List patterns.Bound) → list_any (is_bound_as d) bs ≡ list_any (bytes_eq (text_of d)) (texts_bound bs)
bound-text d [] = refl
bound-text d (b ∷ bs) = ap (λ z. bytes_eq (text_of d) (text_of b.symbol) || z) (bound-text d bs)

-- what comes again is then the same
known-again : (seen bound : List (List ℕ)) (s : Stand) → Knows bound s → repeated_name seen s ≡ name_again seen bound s
known-again seen bound (misshaped d) h = refl
known-again seen bound (function d) h = refl
known-again seen bound (judgement d) h = refl
known-again seen bound (asked d) h = refl
known-again seen bound (arrow d) h = refl
known-again seen bound (pattern bs os) h = refl
known-again seen bound (template bs t) h = refl
known-again seen bound (condition bs t) h = refl
known-again seen bound (plain os) h = refl
known-again seen bound (misfit d n) h = refl
known-again seen bound (fresh bs d) h = ap (λ b. when b d) (bound-text d bs ∙ ap (list_any (bytes_eq (text_of d))) h)
known-again seen bound (named again d) h = refl
known-again seen bound (repeated d) h = refl

module _ (ns : List (List ℕ)) where
  -- each of several does, with what those before it bind
  abbrev AreKnown : List (List ℕ) → List Stand → Type 0
  AreKnown bound [] = Unit {0}
  AreKnown bound (s ∷ ss) = Knows bound s × AreKnown (bound_with ns bound s) ss

  -- the texts that are bound behind all of them
  abbrev bound_behind : List (List ℕ) → List Stand → List (List ℕ)
  bound_behind bound [] = bound
  bound_behind bound (s ∷ ss) = bound_behind (bound_with ns bound s) ss

  -- then the same names come again
  pub are-known : (seen bound : List (List ℕ)) (ss : List Stand) → AreKnown bound ss → repeated_names seen ss ≡ names_again ns seen bound ss
  are-known seen bound [] h = refl
  are-known seen bound (s ∷ ss) h =
      let f = are-known (names_with seen s) (bound_with ns bound s) ss h.1 in
      λ i. known-again seen bound s h.0 i ++ f i

  -- in two lists
  known-both : (bound : List (List ℕ)) (ss rs : List Stand) → AreKnown bound ss → AreKnown (bound_behind bound ss) rs → AreKnown bound (ss ++ rs)
  known-both bound [] rs h k = k
  known-both bound (s ∷ ss) rs h k = (h.0, known-both (bound_with ns bound s) ss rs h.1 k)

  -- behind two lists
  behind-both : (bound : List (List ℕ)) (ss rs : List Stand) → bound_behind bound (ss ++ rs) ≡ bound_behind (bound_behind bound ss) rs
  behind-both bound [] rs = refl
  behind-both bound (s ∷ ss) rs = behind-both (bound_with ns bound s) ss rs

-- ---- where no name is to be made

-- the thing is none
abbrev IsUnmade : Stand → Type 0
IsUnmade (misshaped d) = Unit {0}
IsUnmade (function d) = Unit {0}
IsUnmade (judgement d) = Unit {0}
IsUnmade (asked d) = Unit {0}
IsUnmade (arrow d) = Unit {0}
IsUnmade (pattern bs os) = Unit {0}
IsUnmade (template bs t) = Unit {0}
IsUnmade (condition bs h) = Unit {0}
IsUnmade (plain os) = Unit {0}
IsUnmade (misfit d n) = Unit {0}
IsUnmade (fresh bs d) = ⊥
IsUnmade (named again d) = Unit {0}
IsUnmade (repeated d) = Unit {0}

-- none of several is
abbrev pub AreUnmade : List Stand → Type 0
AreUnmade [] = Unit {0}
AreUnmade (s ∷ ss) = IsUnmade s × AreUnmade ss

-- then it knows what is bound, whatever that is
unmade-knows : (bound : List (List ℕ)) (s : Stand) → IsUnmade s → Knows bound s
unmade-knows bound (misshaped d) h = tt
unmade-knows bound (function d) h = tt
unmade-knows bound (judgement d) h = tt
unmade-knows bound (asked d) h = tt
unmade-knows bound (arrow d) h = tt
unmade-knows bound (pattern bs os) h = tt
unmade-knows bound (template bs t) h = tt
unmade-knows bound (condition bs t) h = tt
unmade-knows bound (plain os) h = tt
unmade-knows bound (misfit d n) h = tt
unmade-knows bound (fresh bs d) h = absurd h
unmade-knows bound (named again d) h = tt
unmade-knows bound (repeated d) h = tt

-- so do several
pub unmade-known : (ns bound : List (List ℕ)) (ss : List Stand) → AreUnmade ss → AreKnown ns bound ss
unmade-known ns bound [] h = tt
unmade-known ns bound (s ∷ ss) h = (unmade-knows bound s h.0, unmade-known ns (bound_with ns bound s) ss h.1)

-- in two lists
pub unmade-both : (ss rs : List Stand) → AreUnmade ss → AreUnmade rs → AreUnmade (ss ++ rs)
unmade-both [] rs h k = k
unmade-both (s ∷ ss) rs h k = (h.0, unmade-both ss rs h.1 k)

-- of one of two
pub unmade-either : (b : Bool) (ss rs : List Stand) → AreUnmade ss → AreUnmade rs → AreUnmade (if b then ss else rs)
unmade-either true ss rs h k = h
unmade-either false ss rs h k = k

-- what does not fit a mode
pub misfits-unmade : (b : Bool) (d x : Sexp) → AreUnmade (misfits b d x)
misfits-unmade true d x = (tt, tt)
misfits-unmade false d x = tt

-- ---- extras of clauses and of rules

module _ (S : Scope) (ns : List (List ℕ)) where
  -- ---- arguments and premises

  -- with flags
  flagged-unmade : (bs : List patterns.Bound) (es : Bound) (fs : List Bool) (ds : List Sexp) → AreUnmade (flagged_stand ns bs es fs ds)
  flagged-unmade bs es [] ds = tt
  flagged-unmade bs es (f ∷ fs) [] = tt
  flagged-unmade bs es (true ∷ fs) (d ∷ ds) = (tt, flagged-unmade (bs ++ bound_in ns d) es fs ds)
  flagged-unmade bs es (false ∷ fs) (d ∷ ds) = (tt, flagged-unmade bs es fs ds)

  -- without flags
  plain-unmade : (ds : List Sexp) → AreUnmade (map plain_argument ds)
  plain-unmade [] = tt
  plain-unmade (d ∷ ds) = (tt, plain-unmade ds)

  -- all of them
  pub arguments-unmade : (bs : List patterns.Bound) (es : Bound) (o : Option (List Bool)) (ds : List Sexp) → AreUnmade (arguments_by ns bs es o ds)
  arguments-unmade bs es None ds = plain-unmade ds
  arguments-unmade bs es (Some fs) ds = flagged-unmade bs es fs ds

  -- what has to be a premise
  pub held-unmade : (bs : List patterns.Bound) (d : Sexp) (o : Option Headed) → AreUnmade (held_stands S ns bs d o)
  held-unmade bs d None = (tt, tt)
  held-unmade bs d (Some q) =
      let b = is_misfit (mode_of S (text_of q.head)) q.arguments in
      let a = premise_arguments S q in
      (tt, unmade-both (misfits b d q.head) (arguments_stand ns bs (names_bound bs) a) (misfits-unmade b d q.head) (arguments-unmade bs (names_bound bs) a.flags a.items))

  -- ---- relations: what is bound behind

  -- symbols behind others
  texts-both : (bs cs : List patterns.Bound) → texts_bound bs ++ texts_bound cs ≡ texts_bound (bs ++ cs)
  texts-both bs cs = sym (map-append (λ b. text_of b.symbol) bs cs)

  -- no symbols behind others
  texts-none : (bs : List patterns.Bound) → texts_bound bs ≡ texts_bound (bs ++ [])
  texts-none bs = ap texts_bound (sym (append-nil bs))

  -- what does not fit a mode
  misfits-behind : (bound : List (List ℕ)) (b : Bool) (d x : Sexp) → bound_behind ns bound (misfits b d x) ≡ bound
  misfits-behind bound true d x = refl
  misfits-behind bound false d x = refl

  -- arguments with flags
  flagged-behind : (bound : List (List ℕ)) (bs : List patterns.Bound) (es : Bound) (fs : List Bool) (ds : List Sexp)
      → bound_behind ns bound (flagged_stand ns bs es fs ds) ≡ bound ++ texts_bound (bound_by_patterns ns (data_at fs ds))
  flagged-behind bound bs es [] ds = sym (append-nil bound)
  flagged-behind bound bs es (f ∷ fs) [] = sym (append-nil bound)
  flagged-behind bound bs es (true ∷ fs) (d ∷ ds) =
      let cs = bound_in ns d in
      let rest = bound_by_patterns ns (data_at fs ds) in
      flagged-behind (bound ++ texts_bound cs) (bs ++ cs) es fs ds ∙ append_assoc bound (texts_bound cs) (texts_bound rest)
      ∙ ap (λ (xs : List (List ℕ)). bound ++ xs) (texts-both cs rest)
  flagged-behind bound bs es (false ∷ fs) (d ∷ ds) = flagged-behind bound bs es fs ds

  -- without flags
  plain-behind : (bound : List (List ℕ)) (ds : List Sexp) → bound_behind ns bound (map plain_argument ds) ≡ bound
  plain-behind bound [] = refl
  plain-behind bound (d ∷ ds) = plain-behind bound ds

  -- all of them
  arguments-behind : (bound : List (List ℕ)) (bs : List patterns.Bound) (es : Bound) (a : Arguments)
      → bound_behind ns bound (arguments_stand ns bs es a) ≡ bound ++ texts_bound (bound_by_patterns ns (patterns_in a))
  arguments-behind bound bs es a = by_flags a.flags refl
    where
      by_flags : (o : Option (List Bool)) → a.flags ≡ o
          → bound_behind ns bound (arguments_by ns bs es o a.items) ≡ bound ++ texts_bound (bound_by_patterns ns (patterns_in (record a { flags = o })))
      by_flags None e = plain-behind bound a.items ∙ sym (append-nil bound)
      by_flags (Some fs) e = flagged-behind bound bs es fs a.items

  -- what has to be a premise
  held-behind : (bound : List (List ℕ)) (bs : List patterns.Bound) (d : Sexp) (o : Option Headed)
      → bound_behind ns bound (held_stands S ns bs d o) ≡ bound ++ texts_bound (bound_by_premise S ns o)
  held-behind bound bs d None = sym (append-nil bound)
  held-behind bound bs d (Some q) =
      let b = is_misfit (mode_of S (text_of q.head)) q.arguments in
      let a = premise_arguments S q in
      let rs = arguments_stand ns bs (names_bound bs) a in
      behind-both ns bound (misfits b d q.head) rs ∙ ap (λ (xs : List (List ℕ)). bound_behind ns xs rs) (misfits-behind bound b d q.head)
      ∙ arguments-behind bound bs (names_bound bs) a

  -- names to be made
  fresh-behind : (bs : List patterns.Bound) (ds : List Sexp) → bound_behind ns (texts_bound bs) (fresh_stands bs ds) ≡ texts_bound (bs ++ map bound_freshly ds)
  fresh-behind bs [] = texts-none bs
  fresh-behind bs (d ∷ ds) =
      let cs = bs ++ bound_freshly d ∷ [] in
      ap (λ (xs : List (List ℕ)). bound_behind ns xs (fresh_stands cs ds)) (texts-both bs (bound_freshly d ∷ []))
      ∙ fresh-behind cs ds ∙ ap texts_bound (append_assoc bs (bound_freshly d ∷ []) (map bound_freshly ds))

  -- an extra
  extra-behind : (bs : List patterns.Bound) (again : Bool) (d : Sexp) (e : ExtraForm)
      → bound_behind ns (texts_bound bs) (extra_stands S ns bs again d e) ≡ texts_bound (bs ++ bound_by_extra S ns e)
  extra-behind bs again d (such_that p t) = texts-both bs (bound_in ns p)
  extra-behind bs again d (provided t) = texts-none bs
  extra-behind bs again d (confirmed t) = texts-none bs
  extra-behind bs again d (holding c) = held-behind (texts_bound bs) bs c (headed c) ∙ texts-both bs (bound_by_premise S ns (headed c))
  extra-behind bs again d (freshly ds) = fresh-behind bs ds
  extra-behind bs again d name = texts-none bs
  extra-behind bs again d no_extra = texts-none bs

  -- ---- relations: what is known

  -- names to be made
  fresh-known : (bs : List patterns.Bound) (ds : List Sexp) → AreKnown ns (texts_bound bs) (fresh_stands bs ds)
  fresh-known bs [] = tt
  fresh-known bs (d ∷ ds) =
      let cs = bs ++ bound_freshly d ∷ [] in
      (refl, subst (λ (xs : List (List ℕ)). AreKnown ns xs (fresh_stands cs ds)) (sym (texts-both bs (bound_freshly d ∷ []))) (fresh-known cs ds))

  -- an extra
  extra-known : (bs : List patterns.Bound) (again : Bool) (d : Sexp) (e : ExtraForm) → AreKnown ns (texts_bound bs) (extra_stands S ns bs again d e)
  extra-known bs again d (such_that p t) = (tt, (tt, tt))
  extra-known bs again d (provided t) = (tt, tt)
  extra-known bs again d (confirmed t) = (tt, tt)
  extra-known bs again d (holding c) = unmade-known ns (texts_bound bs) (held_stands S ns bs c (headed c)) (held-unmade bs c (headed c))
  extra-known bs again d (freshly ds) = fresh-known bs ds
  extra-known bs again d name = (tt, tt)
  extra-known bs again d no_extra = (tt, tt)

  -- extras
  extras-known : (k : ExtraPlace) (bs : List patterns.Bound) (again : Bool) (ds : List Sexp) → AreKnown ns (texts_bound bs) (extras_stand k S ns bs again ds)
  extras-known k bs again [] = tt
  extras-known k bs again (d ∷ ds) =
      let e = form_at k d in
      let cs = bs ++ bound_by_extra S ns e in
      let rest = extras_stand k S ns cs (is_named again e) ds in
      known-both ns (texts_bound bs) (extra_stands S ns bs again d e) rest (extra-known bs again d e)
      (subst (λ (xs : List (List ℕ)). AreKnown ns xs rest) (sym (extra-behind bs again d e)) (extras-known k cs (is_named again e) ds))

  -- a case, whatever is bound in those before it
  case-known : (bound : List (List ℕ)) (d : Sexp) (o : Option CaseForm) → AreKnown ns bound (case_stands S ns d o)
  case-known bound d None = (tt, tt)
  case-known bound d (Some c) = (tt, (tt, (tt, extras-known of_case (bound_in ns c.pattern) false c.extras)))

  -- cases
  cases-known : (bound : List (List ℕ)) (ds : List Sexp) → AreKnown ns bound (cases_stand S ns ds)
  cases-known bound [] = tt
  cases-known bound (d ∷ ds) =
      let ss = case_stands S ns d (case_form d) in
      known-both ns bound ss (cases_stand S ns ds) (case-known bound d (case_form d)) (cases-known (bound_behind ns bound ss) ds)

  -- a domain
  domain-known : (o : Option Sexp) → AreKnown ns [] (domain_stands o)
  domain-known None = tt
  domain-known (Some p) = (tt, tt)

  -- the arrows of a shortcut
  arrows-unmade : (seen : List (List ℕ)) (s : Shortcut) → AreUnmade (arrows_stand seen s)
  arrows-unmade seen s =
      let b = is_known_arrow seen s.old in
      let c = is_among seen (text_of s.new) in
      let os = if b then [] else arrow s.old ∷ [] in
      let rs = if c then repeated s.new ∷ [] else [] in
      unmade-both os rs (unmade-either b [] (arrow s.old ∷ []) tt (tt, tt)) (unmade-either c (repeated s.new ∷ []) [] (tt, tt) tt)

  -- a shortcut
  shortcut-unmade : (seen : List (List ℕ)) (d : Sexp) (o : Option Shortcut) → AreUnmade (shortcut_stands seen d o)
  shortcut-unmade seen d None = (tt, tt)
  shortcut-unmade seen d (Some s) = arrows-unmade seen s

  -- shortcuts
  shortcuts-unmade : (seen : List (List ℕ)) (ds : List Sexp) → AreUnmade (shortcuts_stand seen ds)
  shortcuts-unmade seen [] = tt
  shortcuts-unmade seen (d ∷ ds) =
      let o = shortcut_form d in
      unmade-both (shortcut_stands seen d o) (shortcuts_stand (arrows_with seen o) ds) (shortcut-unmade seen d o) (shortcuts-unmade (arrows_with seen o) ds)

  -- a form without shorthand
  expanded-known : (r : RelationForm) → AreKnown ns [] (expanded_stands S ns r)
  expanded-known r =
      let ss = domain_stands r.domain in
      known-both ns [] ss (cases_stand S ns r.cases) (domain-known r.domain) (cases-known (bound_behind ns [] ss) r.cases)

  -- and with shortcuts behind it
  pub relation-again : (r : RelationForm) (ds : List Sexp)
      → repeated_names [] (expanded_stands S ns r ++ shortcuts_stand [] ds) ≡ names_again ns [] [] (expanded_stands S ns r ++ shortcuts_stand [] ds)
  relation-again r ds =
      let ss = expanded_stands S ns r in
      let rs = shortcuts_stand [] ds in
      are-known ns [] [] (ss ++ rs) (known-both ns [] ss rs (expanded-known r) (unmade-known ns (bound_behind ns [] ss) rs (shortcuts-unmade [] ds)))
