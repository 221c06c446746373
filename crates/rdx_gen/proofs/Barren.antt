-- What a term matches has a height, and what splits one has a height as a context.
use Rattle.std.proofs.Common.{ℕ, List, [], ◌∷◌, map, Option, Some, None, sym, subst}
use Rattle.std.specs.Prelude.{IsTrue}
use Rattle.rdx_term.specs.Tree.{Tree, Trees}
use Rattle.rdx_lang.specs.Bindings.{Binding}
use Rattle.rdx_lang.specs.Lookup.{alternatives_of}
use Rattle.rdx_lang.specs.Members.{In, here, there}
use Rattle.rdx_lang.specs.Patterns.{Pattern, Items, Language}
use Rattle.rdx_lang.specs.References.{are_distinct}
use Rattle.rdx_lang.specs.Rules.{IsAlternative, Match, MatchItems, MatchRun, match_wild, match_kind, match_except, match_prefix, match_hole, match_lit, match_nt, match_named, match_differ, match_in_hole, match_hide_hole, match_closed, match_seq, match_none, match_one, match_many, run_end, run_more, Split, SplitItems, SplitRun, split_hole, split_nt, split_named, split_differ, split_in_hole, split_closed, split_seq, split_here, split_behind, split_many, run_here, run_there, run_behind}
use Rattle.rdx_lang.specs.WellFormed.{defined}
use Rattle.rdx_lang.specs.declared.pattern.Ref.{Ref}
use Rattle.rdx_lang.proofs.LookupLaws.{alternatives_of-all}
use Rattle.rdx_gen.specs.declared.height.Height.{Height}
use Rattle.rdx_gen.specs.Generated.{is_barren}
use Rattle.rdx_gen.specs.Heights.{greater, lesser, least_of, one_more, Known, known_in, height_in, term_height, items_height, context_height, list_height}
use Rattle.rdx_gen.specs.Laws.{NoneClosed, NoneClosedAmong, BarrenMatchesNone}
use Rattle.rdx_gen.proofs.HeightLaws.{height-known}

-- there is one
abbrev Has : Option ℕ → Type 0
Has None = ⊥
Has (Some n) = Unit {0}

has-greater : (a b : Option ℕ) → Has a → Has b → Has (greater a b)
has-greater None b h i = h
has-greater (Some m) None h i = i
has-greater (Some m) (Some n) h i = tt

has-first : (a b : Option ℕ) → Has a → Has (lesser a b)
has-first None b h = absurd h
has-first (Some m) None h = tt
has-first (Some m) (Some n) h = tt

has-second : (a b : Option ℕ) → Has b → Has (lesser a b)
has-second None b h = h
has-second (Some m) None h = tt
has-second (Some m) (Some n) h = tt

has-more : (a : Option ℕ) → Has a → Has (one_more a)
has-more None h = h
has-more (Some n) h = tt

has-lowest : (lowest : Option ℕ) (hs : List (Option ℕ)) → Has lowest → Has (least_of lowest hs)
has-lowest lowest [] h = h
has-lowest lowest (o ∷ hs) h = has-lowest (lesser lowest o) hs (has-first lowest o h)

-- where one of them has a height, there is a least one
has-least : (f : Pattern → Option ℕ) (p : Pattern) (lowest : Option ℕ) (ps : List Pattern) → In p ps → Has (f p) → Has (least_of lowest (map f ps))
has-least f p lowest [] i h = elim i [ ]
has-least f p lowest (q ∷ ps) (here e) h = has-lowest (lesser lowest (f q)) (map f ps) (has-second lowest (f q) (subst (λ r. Has (f r)) e h))
has-least f p lowest (q ∷ ps) (there i) h = has-least f p (lesser lowest (f q)) ps i h

module _ (L : Language) (distinct : IsTrue (are_distinct (defined L))) (open_ones : (x : Ref) (q : Pattern) → IsAlternative L x q → NoneClosed q) where
  abbrev K : Known
  K = known_in L

  among : (x : Ref) (p : Pattern) → IsAlternative L x p → In p (alternatives_of L x)
  among x p a = (alternatives_of-all L x distinct p).1 a

  term-of_one : (x : Ref) (p : Pattern) → IsAlternative L x p → Has (term_height K p) → Has (height_in K x).as_term
  term-of_one x p a h = subst (λ (g : Height). Has g.as_term) (sym (height-known L x))
      (has-more _ (has-least (term_height K) p None (alternatives_of L x) (among x p a) h))

  context-of_one : (x : Ref) (p : Pattern) → IsAlternative L x p → Has (context_height K p) → Has (height_in K x).as_context
  context-of_one x p a h = subst (λ (g : Height). Has g.as_context) (sym (height-known L x))
      (has-more _ (has-least (context_height K) p None (alternatives_of L x) (among x p a) h))

  mutual
    matched-has : (p : Pattern) (t : Tree) (b : Binding) → NoneClosed p → Match L p t b → Has (term_height K p)
    matched-has p t b n match_wild = tt
    matched-has p t b n (match_kind e) = tt
    matched-has p t b n (match_except e) = tt
    matched-has p t b n (match_prefix e) = tt
    matched-has p t b n match_hole = tt
    matched-has p t b n (match_lit e) = tt
    matched-has p t b n (match_nt {x = x} {p = q} {c = c} a m) = term-of_one x q a (matched-has q t c (open_ones x q a) m)
    matched-has p t b n (match_named {q = q} {c = c} m j) = matched-has q t c n m
    matched-has p t b n (match_differ {q = q} {c = c} m j) = matched-has q t c n m
    matched-has p t b n (match_in_hole {q = q} {r = r} {C = C} {u = u} {c = c} {d = d} s m j) =
        has-greater (context_height K q) (term_height K r) (split-has q t C u c n.0 s) (matched-has r u d n.1 m)
    matched-has p t b n (match_hide_hole {q = q} m) = matched-has q t b n m
    matched-has p t b n (match_closed m) = absurd n
    matched-has p t b n (match_seq {ps = ps} {ts = ts} m) = items-has ps ts b n m

    items-has : (ps : Items) (ts : Trees) (b : Binding) → NoneClosedAmong ps → MatchItems L ps ts b → Has (items_height K ps)
    items-has ps ts b n match_none = tt
    items-has ps ts b n (match_one {p = p} {ps = qs} {t = t} {ts = us} {c = c} {d = d} m r j) =
        has-greater (term_height K p) (items_height K qs) (matched-has p t c n.0 m) (items-has qs us d n.1 r)
    items-has ps ts b n (match_many {p = p} {ps = qs} {cs = cs} {d = d} r i j) = run-has p qs ts cs d n.1 r

    run-has : (p : Pattern) (ps : Items) (ts : Trees) (cs : List Binding) (d : Binding) → NoneClosedAmong ps → MatchRun L p ps ts cs d
        → Has (items_height K ps)
    run-has p ps ts cs d n (run_end m) = items-has ps ts d n m
    run-has p ps ts cs d n (run_more {ts = us} {cs = es} m r) = run-has p ps us es d n r

    split-has : (p : Pattern) (t C s : Tree) (b : Binding) → NoneClosed p → Split L p t C s b → Has (context_height K p)
    split-has p t C s b n split_hole = tt
    split-has p t C s b n (split_nt {x = x} {p = q} {c = c} a m) = context-of_one x q a (split-has q t C s c (open_ones x q a) m)
    split-has p t C s b n (split_named {q = q} {c = c} m j) = split-has q t C s c n m
    split-has p t C s b n (split_differ {q = q} {c = c} m j) = split-has q t C s c n m
    split-has p t C s b n (split_in_hole {q = q} {r = r} {D = D} {E = E} {u = u} {c = c} {d = d} m k e j) =
        has-greater (context_height K q) (context_height K r) (split-has q t D u c n.0 m) (split-has r u E s d n.1 k)
    split-has p t C s b n (split_closed m) = absurd n
    split-has p t C s b n (split_seq {ps = ps} {ts = ts} {k = k} {D = D} m e) = split_items-has ps ts k D s b n m

    split_items-has : (ps : Items) (ts : Trees) (k : ℕ) (D s : Tree) (b : Binding) → NoneClosedAmong ps → SplitItems L ps ts k D s b
        → Has (list_height K ps)
    split_items-has ps ts k D s b n (split_here {p = p} {ps = qs} {t = t} {ts = us} {c = c} {d = d} m r j) =
        has-first (greater (context_height K p) (items_height K qs)) (greater (term_height K p) (list_height K qs))
        (has-greater (context_height K p) (items_height K qs) (split-has p t D s c n.0 m) (items-has qs us d n.1 r))
    split_items-has ps ts k D s b n (split_behind {p = p} {ps = qs} {t = t} {ts = us} {k = i} {c = c} {d = d} m r j) =
        has-second (greater (context_height K p) (items_height K qs)) (greater (term_height K p) (list_height K qs))
        (has-greater (term_height K p) (list_height K qs) (matched-has p t c n.0 m) (split_items-has qs us i D s d n.1 r))
    split_items-has ps ts k D s b n (split_many {p = p} {ps = qs} {cs = cs} {d = d} r i j) = split_run-has p qs ts k D s cs d n.0 n.1 r

    split_run-has : (p : Pattern) (ps : Items) (ts : Trees) (k : ℕ) (D s : Tree) (cs : List Binding) (d : Binding) → NoneClosed p → NoneClosedAmong ps
        → SplitRun L p ps ts k D s cs d → Has (lesser (greater (context_height K p) (items_height K ps)) (list_height K ps))
    split_run-has p ps ts k D s cs d n m (run_here {t = t} {ts = us} {c = c} {cs = es} h r) =
        has-first (greater (context_height K p) (items_height K ps)) (list_height K ps)
        (has-greater (context_height K p) (items_height K ps) (split-has p t D s c n h) (run-has p ps us es d m r))
    split_run-has p ps ts k D s cs d n m (run_there {ts = us} {k = i} {cs = es} h r) = split_run-has p ps us i D s es d n m r
    split_run-has p ps ts k D s cs d n m (run_behind r) =
        has-second (greater (context_height K p) (items_height K ps)) (list_height K ps) (split_items-has ps ts k D s d m r)

pub barren_matches_none : BarrenMatchesNone
barren_matches_none L p size w v t b distinct open_ones n (is_barren f e) m = subst Has e (matched-has L distinct open_ones p t b n m)
