-- What follows by the rules has a derivation that holds: each rule is used at a node over the derivations of its parts.
use Rattle.std.proofs.Common.{◌≡◌, ℕ, zero, suc, true, false, Bool, List, [], ◌∷◌, ◌++◌, Option, Some, refl, sym, ap, subst}
use Rattle.std.proofs.lemmas.Bool.{and_parts}
use Rattle.std.specs.List.{list_all}
use Rattle.std.specs.Prelude.{not, slice_get, ◌&&◌, bytes_eq, if◌then◌else◌}
use Rattle.rdx_term.specs.Tree.{Tree, symbol, list, Trees, cons}
use Rattle.rdx_lang.specs.Bindings.{Binding, no_names, visible}
use Rattle.rdx_lang.specs.Members.{In, here, there}
use Rattle.rdx_lang.specs.Patterns.{Pattern, wild, of_kind, except, prefix, hole, lit, nt, named, differ, in_hole, hide_hole, closed, seq, Items, nil, one, many, Language}
use Rattle.rdx_lang.specs.Programs.{Extra, such_as, provided, holds, fresh, Premise, Judgement, JudgementRule, Mode, Program, judgement_among, language_named}
use Rattle.rdx_lang.specs.Rules.{IsAlternative, Match, MatchItems, MatchRun, match_wild, match_kind, match_except, match_prefix, match_hole, match_lit, match_nt, match_named, match_differ, match_in_hole, match_hide_hole, match_closed, match_seq, match_none, match_one, match_many, run_end, run_more, is_one_of}
use Rattle.rdx_lang.specs.Rules.{Split, SplitItems, SplitRun, split_hole, split_nt, split_named, split_differ, split_in_hole, split_closed, split_seq, split_here, split_behind, split_many, run_here, run_there, run_behind}
use Rattle.rdx_lang.specs.Depths.{Use, uses, has_fitting_names}
use Rattle.rdx_lang.specs.Fitting.{fits}
use Rattle.rdx_lang.specs.Modes.{fits_mode, rule_fits_mode}
use Rattle.rdx_lang.specs.Scopes.{bound_by, case_uses, extra_uses}
use Rattle.rdx_lang.specs.Templates.{Template}
use Rattle.rdx_lang.specs.Valid.{are_distinct, are_valid_extras, callable_in, defined_names, is_valid, is_valid_beside, is_valid_extra, is_valid_judgement, is_valid_judgement_contract, is_valid_judgement_of, is_valid_judgement_rule, is_valid_metafunction_of}
use Rattle.rdx_lang.specs.WellFormed.{has_known_nonterminals, have_known_nonterminals, defined, is_well_formed_in}
use Rattle.rdx_lang.specs.declared.pattern.Ref.{Ref}
use Rattle.rdx_lang.proofs.KnownCrosses.{KnowsAll, well_formed-knows}
use Rattle.rdx_lang.proofs.Passing.{member_passes}
use Rattle.rdx_lang.proofs.WellFormedCrosses.{alternative-passes}
use Rattle.rdx_eval.specs.Fresh.{Avoided, avoiding, behind}
use Rattle.rdx_deriv.specs.Derivations.{Goal, matched, split, judged, Derivations, node, none, more, root, roots}
use Rattle.rdx_deriv.specs.Holds.{AllHold}
use Rattle.rdx_deriv.specs.Judged.{IsRuleFor, Judged, judged_by, Leads, leads_end, leads_where, leads_condition, leads_premise, leads_fresh}
use Rattle.rdx_deriv.specs.JudgementUses.{ExtraUses}
use Rattle.rdx_deriv.specs.Laws.{Follows, HasDerivation, HasWellFormedLanguages}
use Rattle.rdx_deriv.specs.Uses.{IsAlone, OneUnder, Focus, nowhere, at, next, item_goal, ItemUses, TurnUses, uses_none, uses_one, uses_many, turns_end, turns_more, IsMatchUse, IsSplitUse}
use Rattle.rdx_deriv.proofs.Sound.{placed-in}

-- a member is found at a place
pub in-placed : {A : Type 0} (xs : List A) (x : A) → In x xs → (i : ℕ) × (slice_get xs i ≡ Some x)
in-placed [] x h = elim h [ ]
in-placed (y ∷ xs) x (here e) = (0, ap (λ z. Some z) (sym e))
in-placed (y ∷ xs) x (there h) = let k = in-placed xs x h in (suc k.0, k.1)

not-false : (b : Bool) → b ≡ false → not b ≡ true
not-false true h = absurd cc
not-false false h = refl

module _ (P : Program) (l : List ℕ) (L : Language) (e : language_named P l ≡ Some L) (w : KnowsAll L) where
  -- the nonterminals of the pattern are those of the language
  abbrev Known : Pattern → Type 0
  Known p = has_known_nonterminals (defined L) p ≡ true

  abbrev AllKnown : Items → Type 0
  AllKnown ps = have_known_nonterminals (defined L) ps ≡ true

  -- a derivation of this goal
  abbrev Of : Goal → Type 0
  Of g = HasDerivation P g

  -- derivations that use up items
  record HasUses (f : Focus) (ps : Items) (ts : Trees) (b : Binding) : Type 0 where
    pub lengths : List ℕ
    pub under : Derivations
    pub hold : AllHold P under
    pub uses : ItemUses l f ps ts lengths (roots under) b

  -- and turns
  record HasTurns (f : Focus) (p : Pattern) (ps : Items) (ts : Trees) (cs : List Binding) (d : Binding) : Type 0 where
    pub count : ℕ
    pub lengths : List ℕ
    pub under : Derivations
    pub hold : AllHold P under
    pub uses : TurnUses l f p ps ts count lengths (roots under) cs d

  -- nodes of both kinds
  match_node : (p : Pattern) (t : Tree) (b : Binding) (ks : List ℕ) (ds : Derivations) →
      Known p → IsMatchUse L l p t b ks (roots ds) → AllHold P ds → Of (matched l p t b)
  match_node p t b ks ds k u h = record {
    derivation = node (matched l p t b) ks ds;
    of_goal = refl;
    holds = (record { language = L; named = e; known = k; here = u }, h);
  }

  split_node : (p : Pattern) (t C s : Tree) (b : Binding) (ks : List ℕ) (ds : Derivations) →
      Known p → IsSplitUse L l p t C s b ks (roots ds) → AllHold P ds → Of (split l p t C s b)
  split_node p t C s b ks ds k u h = record {
    derivation = node (split l p t C s b) ks ds;
    of_goal = refl;
    holds = (record { language = L; named = e; known = k; here = u }, h);
  }

  -- one derivation, and two
  abbrev single : {g : Goal} → Of g → Derivations
  single d = more d.derivation none

  abbrev pair : {g h : Goal} → Of g → Of h → Derivations
  pair d f = more d.derivation (more f.derivation none)

  -- a pattern that fits by itself
  alone : {F : Type 0} → F → IsAlone F no_names [] (roots none)
  alone h = record { fits = h; nameless = refl; no_choice = refl; nothing_under = refl }

  -- one derivation under a node
  one_under : {goal : Binding → Goal} {test : Binding → Type 0} (c : Binding) (d : Of (goal c)) → test c → OneUnder goal test [] (roots (single d))
  one_under c d h = record { inside = c; passes = h; no_choice = refl; under = ap (λ g. g ∷ []) d.of_goal }

  -- an alternative speaks of what the language has
  alternative_known : (x : Ref) (p : Pattern) → IsAlternative L x p → Known p
  alternative_known x p a = alternative-passes (has_known_nonterminals (defined L)) L x p w a

  -- an item and those behind it
  one_more : (f : Focus) (p : Pattern) (ps : Items) (t : Tree) (ts : Trees) (c d b : Binding) → Of (item_goal f l p t c) → HasUses (next f) ps ts d
      → ((g : Goal) → g ≡ item_goal f l p t c → (ks : List ℕ) (gs : List Goal) → ItemUses l (next f) ps ts ks gs d
      → ItemUses l f (one p ps) (cons t ts) ks (g ∷ gs) b)
      → HasUses f (one p ps) (cons t ts) b
  one_more f p ps t ts c d b h u put = record {
    lengths = u.lengths;
    under = more h.derivation u.under;
    hold = (h.holds, u.hold);
    uses = put (root h.derivation) h.of_goal u.lengths (roots u.under) u.uses;
  }

  turn_more : (f : Focus) (p : Pattern) (ps : Items) (t : Tree) (ts : Trees) (c d : Binding) (cs : List Binding) → Of (item_goal f l p t c)
      → HasTurns (next f) p ps ts cs d → HasTurns f p ps (cons t ts) (c ∷ cs) d
  turn_more f p ps t ts c d cs h r = record {
    count = suc r.count;
    lengths = r.lengths;
    under = more h.derivation r.under;
    hold = (h.holds, r.hold);
    uses = turns_more h.of_goal r.uses;
  }

  turns_done : (f : Focus) (p : Pattern) (ps : Items) (ts : Trees) (d : Binding) → HasUses f ps ts d → HasTurns f p ps ts [] d
  turns_done f p ps ts d u = record { count = 0; lengths = u.lengths; under = u.under; hold = u.hold; uses = turns_end u.uses }

  mutual
    derive_match : (p : Pattern) (t : Tree) (b : Binding) → Known p → Match L p t b → Of (matched l p t b)
    derive_match wild t b k match_wild =
        match_node wild t no_names [] none k (alone tt) tt
    derive_match (of_kind j) t b k (match_kind h) =
        match_node (of_kind j) t no_names [] none k (alone h) tt
    derive_match (except rs) t b k (match_except {s = s} h) =
        match_node (except rs) (symbol s) no_names [] none k (alone (not-false (is_one_of rs s) h)) tt
    derive_match (prefix r) t b k (match_prefix {s = s} h) =
        match_node (prefix r) (symbol s) no_names [] none k (alone h) tt
    derive_match hole t b k match_hole =
        match_node hole t no_names [] none k (alone refl) tt
    derive_match (lit u) t b k (match_lit h) =
        match_node (lit u) t no_names [] none k (alone h) tt
    derive_match (nt x) t b k (match_nt {p = p} {c = c} a h) =
        let d : Of (matched l p t c) = derive_match p t c (alternative_known x p a) h in
        let i = in-placed a.all p a.among in
        match_node (nt x) t no_names (i.0 ∷ []) (single d) k (record {
          place = i.0;
          pattern = p;
          alternative = record { all = a.all; defined = a.defined; there = i.1 };
          choice = refl;
          one = one_under c d refl;
        }) (d.holds, tt)
    derive_match (named x q) t b k (match_named {c = c} h j) =
        let d : Of (matched l q t c) = derive_match q t c k h in
        match_node (named x q) t b [] (single d) k (one_under c d j) (d.holds, tt)
    derive_match (differ x q) t b k (match_differ {c = c} h j) =
        let d : Of (matched l q t c) = derive_match q t c k h in
        match_node (differ x q) t b [] (single d) k (one_under c d j) (d.holds, tt)
    derive_match (in_hole q r) t b k (match_in_hole {C = C} {u = u} {c = c} {d = d} h g j) =
        let ks : Known q × Known r = and_parts (has_known_nonterminals (defined L) q) (has_known_nonterminals (defined L) r) k in
        let f : Of (split l q t C u c) = derive_split q t C u c ks.0 h in
        let m : Of (matched l r u d) = derive_match r u d ks.1 g in
        match_node (in_hole q r) t b [] (pair f m) k (record {
          context = C;
          part = u;
          outer = c;
          inner = d;
          joined = j;
          no_choice = refl;
          under = λ i. f.of_goal i ∷ m.of_goal i ∷ [];
        }) (f.holds, (m.holds, tt))
    derive_match (hide_hole q) t b k (match_hide_hole h) =
        let d : Of (matched l q t b) = derive_match q t b k h in
        match_node (hide_hole q) t b [] (single d) k (one_under b d refl) (d.holds, tt)
    derive_match (closed q) t b k (match_closed {c = c} h) =
        let d : Of (matched l q t c) = derive_match q t c k h in
        match_node (closed q) t no_names [] (single d) k (one_under c d refl) (d.holds, tt)
    derive_match (seq ps) t b k (match_seq {m = m} {ts = ts} h) =
        let u : HasUses nowhere ps ts b = derive_items ps ts b k h in
        match_node (seq ps) (list m ts) b u.lengths u.under k (record { mark = m; items = ts; same = refl; uses = u.uses }) u.hold

    derive_items : (ps : Items) (ts : Trees) (b : Binding) → AllKnown ps → MatchItems L ps ts b → HasUses nowhere ps ts b
    derive_items nil ts b k match_none = record { lengths = []; under = none; hold = tt; uses = uses_none }
    derive_items (one p ps) ts b k (match_one {t = t} {ts = us} {c = c} {d = d} h g j) =
        let ks : Known p × AllKnown ps = and_parts (has_known_nonterminals (defined L) p) (have_known_nonterminals (defined L) ps) k in
        one_more nowhere p ps t us c d b (derive_match p t c ks.0 h) (derive_items ps us d ks.1 g) (λ x f ls gs u. uses_one f u j)
    derive_items (many p n ps) ts b k (match_many {cs = cs} {c = c} {d = d} r h j) =
        let ks : Known p × AllKnown ps = and_parts (has_known_nonterminals (defined L) p) (have_known_nonterminals (defined L) ps) k in
        let u : HasTurns nowhere p ps ts cs d = derive_run p ps ts cs d ks.0 ks.1 r in
        record { lengths = u.count ∷ u.lengths; under = u.under; hold = u.hold; uses = uses_many u.uses h j }

    derive_run : (p : Pattern) (ps : Items) (ts : Trees) (cs : List Binding) (d : Binding) → Known p → AllKnown ps → MatchRun L p ps ts cs d
        → HasTurns nowhere p ps ts cs d
    derive_run p ps ts cs d k m (run_end h) = turns_done nowhere p ps ts d (derive_items ps ts d m h)
    derive_run p ps ts cs d k m (run_more {t = t} {ts = us} {c = c} {cs = es} h r) =
        turn_more nowhere p ps t us c d es (derive_match p t c k h) (derive_run p ps us es d k m r)

    derive_split : (p : Pattern) (t C s : Tree) (b : Binding) → Known p → Split L p t C s b → Of (split l p t C s b)
    derive_split wild t C s b k h = elim h [ ]
    derive_split (of_kind j) t C s b k h = elim h [ ]
    derive_split (except rs) t C s b k h = elim h [ ]
    derive_split (prefix r) t C s b k h = elim h [ ]
    derive_split (lit u) t C s b k h = elim h [ ]
    derive_split (hide_hole q) t C s b k h = elim h [ ]
    derive_split hole t C s b k split_hole =
        split_node hole t C t no_names [] none k (alone (refl, refl)) tt
    derive_split (nt x) t C s b k (split_nt {p = p} {c = c} a h) =
        let d : Of (split l p t C s c) = derive_split p t C s c (alternative_known x p a) h in
        let i = in-placed a.all p a.among in
        split_node (nt x) t C s no_names (i.0 ∷ []) (single d) k (record {
          place = i.0;
          pattern = p;
          alternative = record { all = a.all; defined = a.defined; there = i.1 };
          choice = refl;
          one = one_under c d refl;
        }) (d.holds, tt)
    derive_split (named x q) t C s b k (split_named {c = c} h j) =
        let d : Of (split l q t C s c) = derive_split q t C s c k h in
        split_node (named x q) t C s b [] (single d) k (one_under c d j) (d.holds, tt)
    derive_split (differ x q) t C s b k (split_differ {c = c} h j) =
        let d : Of (split l q t C s c) = derive_split q t C s c k h in
        split_node (differ x q) t C s b [] (single d) k (one_under c d j) (d.holds, tt)
    derive_split (in_hole q r) t C s b k (split_in_hole {D = D} {E = E} {u = u} {c = c} {d = d} h g f j) =
        let ks : Known q × Known r = and_parts (has_known_nonterminals (defined L) q) (has_known_nonterminals (defined L) r) k in
        let m : Of (split l q t D u c) = derive_split q t D u c ks.0 h in
        let n : Of (split l r u E s d) = derive_split r u E s d ks.1 g in
        split_node (in_hole q r) t C s b [] (pair m n) k (record {
          first = D;
          second = E;
          part = u;
          outer = c;
          inner = d;
          joined = j;
          filled = f;
          no_choice = refl;
          under = λ i. m.of_goal i ∷ n.of_goal i ∷ [];
        }) (m.holds, (n.holds, tt))
    derive_split (closed q) t C s b k (split_closed {c = c} h) =
        let d : Of (split l q t C s c) = derive_split q t C s c k h in
        split_node (closed q) t C s no_names [] (single d) k (one_under c d refl) (d.holds, tt)
    derive_split (seq ps) t C s b k (split_seq {m = m} {ts = ts} {k = i} {D = D} h f) =
        let u : HasUses (at i D s) ps ts b = derive_split_items ps ts i D s b k h in
        split_node (seq ps) (list m ts) C s b (u.lengths ++ i ∷ []) u.under k (record {
          mark = m;
          items = ts;
          lengths = u.lengths;
          place = i;
          inner = D;
          same = refl;
          around = f;
          choice = refl;
          uses = u.uses;
        }) u.hold

    derive_split_items : (ps : Items) (ts : Trees) (i : ℕ) (D s : Tree) (b : Binding) → AllKnown ps → SplitItems L ps ts i D s b
        → HasUses (at i D s) ps ts b
    derive_split_items nil ts i D s b k h = elim h [ ]
    derive_split_items (one p ps) ts i D s b k (split_here {t = t} {ts = us} {c = c} {d = d} h g j) =
        let ks : Known p × AllKnown ps = and_parts (has_known_nonterminals (defined L) p) (have_known_nonterminals (defined L) ps) k in
        one_more (at zero D s) p ps t us c d b (derive_split p t D s c ks.0 h) (derive_items ps us d ks.1 g) (λ x f ls gs u. uses_one f u j)
    derive_split_items (one p ps) ts i D s b k (split_behind {t = t} {ts = us} {k = m} {c = c} {d = d} h g j) =
        let ks : Known p × AllKnown ps = and_parts (has_known_nonterminals (defined L) p) (have_known_nonterminals (defined L) ps) k in
        one_more (at (suc m) D s) p ps t us c d b (derive_match p t c ks.0 h) (derive_split_items ps us m D s d ks.1 g)
        (λ x f ls gs u. uses_one f u j)
    derive_split_items (many p n ps) ts i D s b k (split_many {cs = cs} {c = c} {d = d} r h j) =
        let ks : Known p × AllKnown ps = and_parts (has_known_nonterminals (defined L) p) (have_known_nonterminals (defined L) ps) k in
        let u : HasTurns (at i D s) p ps ts cs d = derive_split_run p ps ts i D s cs d ks.0 ks.1 r in
        record { lengths = u.count ∷ u.lengths; under = u.under; hold = u.hold; uses = uses_many u.uses h j }

    derive_split_run : (p : Pattern) (ps : Items) (ts : Trees) (i : ℕ) (D s : Tree) (cs : List Binding) (d : Binding) → Known p → AllKnown ps
        → SplitRun L p ps ts i D s cs d → HasTurns (at i D s) p ps ts cs d
    derive_split_run p ps ts i D s cs d k m (run_here {t = t} {ts = us} {c = c} {cs = es} h r) =
        turn_more (at zero D s) p ps t us c d es (derive_split p t D s c k h) (derive_run p ps us es d k m r)
    derive_split_run p ps ts i D s cs d k m (run_there {t = t} {ts = us} {k = j} {c = c} {cs = es} h r) =
        turn_more (at (suc j) D s) p ps t us c d es (derive_match p t c k h) (derive_split_run p ps us j D s es d k m r)
    derive_split_run p ps ts i D s cs d k m (run_behind h) = turns_done (at i D s) p ps ts d (derive_split_items ps ts i D s d m h)

-- ---- judgements

-- a judgement that is found is one of these
judgement_in : (js : List Judgement) (x : List ℕ) (J : Judgement) → judgement_among js x ≡ Some J → In J js
judgement_in [] x J e = absurd cc
judgement_in (K ∷ js) x J e = by_test (bytes_eq K.name x) e (judgement_in js x J)
  where
    by_test : (b : Bool) → (if b then Some K else judgement_among js x) ≡ Some J → (judgement_among js x ≡ Some J → In J js) → In J (K ∷ js)
    by_test true d f = here (cc)
    by_test false d f = there (f d)

-- a pattern that is well formed speaks of what the language has
pattern_known : (L : Language) (p : Pattern) → is_well_formed_in L p ≡ true → has_known_nonterminals (defined L) p ≡ true
pattern_known L p v = (and_parts (has_known_nonterminals (defined L) p) (has_fitting_names p) v).0

module _ (P : Program) (w : HasWellFormedLanguages P) (v : is_valid P ≡ true) where
  -- each judgement is valid
  judgements_valid : list_all (is_valid_judgement_of P) P.judgements ≡ true
  judgements_valid =
      let others = list_all (is_valid_judgement_of P) P.judgements && list_all (is_valid_beside P) P.relations in
      let all = list_all (is_valid_metafunction_of P) P.metafunctions && others in
      (and_parts (list_all (is_valid_judgement_of P) P.judgements) (list_all (is_valid_beside P) P.relations)
      (and_parts (list_all (is_valid_metafunction_of P) P.metafunctions) others (and_parts (are_distinct (defined_names P)) all v).1).1).0

  -- so each rule of one is
  rule_valid : (j : List ℕ) (L : Language) (i : ℕ) (r : JudgementRule) (a o : Tree) (f : IsRuleFor P j L i r a o)
      → is_valid_judgement_rule (callable_in P) L f.judgement.mode r ≡ true
  rule_valid j L i r a o f =
      let J : Judgement = f.judgement in
      let here : is_valid_judgement (callable_in P) (language_named P J.language) J ≡ true =
      member_passes (is_valid_judgement_of P) J P.judgements judgements_valid (judgement_in P.judgements j J f.named) in
      let over : is_valid_judgement (callable_in P) (Some L) J ≡ true =
      subst (λ (m : Option Language). is_valid_judgement (callable_in P) m J ≡ true) f.language here in
      member_passes (is_valid_judgement_rule (callable_in P) L J.mode) r J.rules
      (and_parts (is_valid_judgement_contract L J.mode J.contract) (list_all (is_valid_judgement_rule (callable_in P) L J.mode) J.rules) over).1
      (placed-in J.rules i r f.there)

  -- its pattern speaks of what the language has
  inputs_known : (L : Language) (m : Mode) (r : JudgementRule) → is_valid_judgement_rule (callable_in P) L m r ≡ true
      → (has_known_nonterminals (defined L) r.inputs ≡ true) × (are_valid_extras (callable_in P) L (uses 0 r.inputs) r.extras ≡ true)
  inputs_known L m r k =
      let made = list_all (fits (callable_in P).functions (bound_by (case_uses r.inputs r.extras)) 0) r.outputs in
      let extras = are_valid_extras (callable_in P) L (uses 0 r.inputs) r.extras in
      let rest = and_parts (is_well_formed_in L r.inputs) (extras && made)
      (and_parts (rule_fits_mode m r) (is_well_formed_in L r.inputs && (extras && made)) k).1 in
      (pattern_known L r.inputs rest.0, (and_parts extras made rest.1).0)

  -- an extra is valid, and so are those behind it
  extras_valid : (L : Language) (us : List Use) (x : Extra) (es : List Extra) → are_valid_extras (callable_in P) L us (x ∷ es) ≡ true
      → (is_valid_extra (callable_in P) L us x ≡ true) × (are_valid_extras (callable_in P) L (us ++ extra_uses x) es ≡ true)
  extras_valid L us x es k = and_parts (is_valid_extra (callable_in P) L us x) (are_valid_extras (callable_in P) L (us ++ extra_uses x) es) k

  -- the pattern of a `where` speaks of what the language has
  where_known : (L : Language) (us : List Use) (p : Pattern) (m : Template) → is_valid_extra (callable_in P) L us (such_as p m) ≡ true
      → has_known_nonterminals (defined L) p ≡ true
  where_known L us p m k = pattern_known L p (and_parts (is_well_formed_in L p) (fits (callable_in P).functions (bound_by us) 0 m) k).0

  -- so does that of a premise
  premise_known : (L : Language) (us : List Use) (q : Premise) → is_valid_extra (callable_in P) L us (holds q) ≡ true
      → has_known_nonterminals (defined L) q.outputs ≡ true
  premise_known L us q k =
      let inputs = list_all (fits (callable_in P).functions (bound_by us) 0) q.inputs in
      let known = and_parts (fits_mode ((callable_in P).modes q.judgement) q) (inputs && is_well_formed_in L q.outputs) k in
      pattern_known L q.outputs (and_parts inputs (is_well_formed_in L q.outputs) known.1).1

  -- derivations by which extras lead from b to c
  record HasExtraUses (l : List ℕ) (z : Avoided) (es : List Extra) (b c : Binding) : Type 0 where
    pub under : Derivations
    pub hold : AllHold P under
    pub uses : ExtraUses P l z es c b (roots under)

  mutual
    derive_judged : (j : List ℕ) (a o : Tree) → Judged P j a o → HasDerivation P (judged j a o)
    derive_judged j a o (judged_by {L = L} {i = i} {r = r} {b = b} {c = c} f m h k) =
        let l : List ℕ = f.judgement.language in
        let known = inputs_known L f.judgement.mode r (rule_valid j L i r a o f) in
        let d : HasDerivation P (matched l r.inputs a b) =
        derive_match P l L f.language (well_formed-knows L (w l L f.language)) r.inputs a b known.0 m in
        let u : HasExtraUses l (avoiding a) r.extras (visible b) c =
        derive_extras l L f.language (uses 0 r.inputs) (avoiding a) r.extras (visible b) c known.1 h in
        record {
          derivation = node (judged j a o) (i ∷ []) (more d.derivation u.under);
          of_goal = refl;
          holds = (
            record {
              language = L;
              place = i;
              rule = r;
              found = b;
              final = c;
              left = roots u.under;
              rule_for = f;
              choice = refl;
              goals = ap (λ g. g ∷ roots u.under) d.of_goal;
              extras = u.uses;
              made = k;
            },
            (d.holds, u.hold),
          );
        }

    derive_extras : (l : List ℕ) (L : Language) → language_named P l ≡ Some L → (us : List Use) (z : Avoided) (es : List Extra) (b c : Binding)
        → are_valid_extras (callable_in P) L us es ≡ true → Leads P L z es b c → HasExtraUses l z es b c
    derive_extras l L e us z [] b c k leads_end = record { under = none; hold = tt; uses = (refl, refl) }
    derive_extras l L e us z (such_as p m ∷ es) b c k (leads_where {t = t} {d = d} {c = n} h i q g) =
        let ks = extras_valid L us (such_as p m) es k in
        let f : HasDerivation P (matched l p t d) =
        derive_match P l L e (well_formed-knows L (w l L e)) p t d (where_known L us p m ks.0) i in
        let u : HasExtraUses l z es n c = derive_extras l L e (us ++ extra_uses (such_as p m)) z es n c ks.1 g in
        record {
          under = more f.derivation u.under;
          hold = (f.holds, u.hold);
          uses = record {
            term = t;
            found = d;
            joined = n;
            left = roots u.under;
            made = h;
            goals = ap (λ x. x ∷ roots u.under) f.of_goal;
            join = q;
            behind = u.uses;
          };
        }
    derive_extras l L e us z (provided x ∷ es) b c k (leads_condition t h i g) =
        let ks = extras_valid L us (provided x) es k in
        let u : HasExtraUses l z es b c = derive_extras l L e (us ++ extra_uses (provided x)) z es b c ks.1 g in
        record { under = u.under; hold = u.hold; uses = record { term = t; made = h; not_false = i; behind = u.uses } }
    derive_extras l L e us z (holds q ∷ es) b c k (leads_premise {t = t} {u = o} {d = d} {c = n} h j i r g) =
        let ks = extras_valid L us (holds q) es k in
        let f : HasDerivation P (judged q.judgement t o) = derive_judged q.judgement t o j in
        let m : HasDerivation P (matched l q.outputs o d) =
        derive_match P l L e (well_formed-knows L (w l L e)) q.outputs o d (premise_known L us q ks.0) i in
        let u : HasExtraUses l z es n c = derive_extras l L e (us ++ extra_uses (holds q)) z es n c ks.1 g in
        record {
          under = more f.derivation (more m.derivation u.under);
          hold = (f.holds, (m.holds, u.hold));
          uses = record {
            inputs = t;
            outputs = o;
            found = d;
            joined = n;
            left = roots u.under;
            made = h;
            goals = λ y. f.of_goal y ∷ m.of_goal y ∷ roots u.under;
            join = r;
            behind = u.uses;
          };
        }
    derive_extras l L e us z (fresh x ∷ es) b c k (leads_fresh {c = n} j g) =
        let ks = extras_valid L us (fresh x) es k in
        let u : HasExtraUses l (behind z (fresh x)) es n c =
        derive_extras l L e (us ++ extra_uses (fresh x)) (behind z (fresh x)) es n c ks.1 g in
        record { under = u.under; hold = u.hold; uses = record { joined = n; join = j; behind = u.uses } }

-- what follows has a derivation
pub what_follows_has_derivation : (P : Program) (g : Goal) → HasWellFormedLanguages P → is_valid P ≡ true → Follows P g → HasDerivation P g
what_follows_has_derivation P (matched l p t b) w v d =
    derive_match P l d.language d.named (well_formed-knows d.language (w l d.language d.named)) p t b d.known d.here
what_follows_has_derivation P (split l p t C s b) w v d =
    derive_split P l d.language d.named (well_formed-knows d.language (w l d.language d.named)) p t C s b d.known d.here
what_follows_has_derivation P (judged j a o) w v d = derive_judged P w v j a o d
