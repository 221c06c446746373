-- What an opened pattern binds has no sets of mismatch names, and it speaks of the nonterminals of which the pattern speaks.
use Rattle.std.proofs.Common.{◌≡◌, ◌&&◌, ℕ, Bool, List, [], ◌∷◌, refl, ◌∙◌, ap}
use Rattle.rdx_term.specs.Tree.{Tree, Trees}
use Rattle.rdx_lang.specs.Bindings.{Binding}
use Rattle.rdx_lang.specs.Members.{here, there}
use Rattle.rdx_lang.specs.Patterns.{Pattern, Items, Language}
use Rattle.rdx_lang.specs.Rules.{Match, MatchItems, MatchRun, match_wild, match_kind, match_except, match_prefix, match_hole, match_lit, match_nt, match_named, match_in_hole, match_hide_hole, match_closed, match_seq, match_none, match_one, match_many, run_end, run_more}
use Rattle.rdx_lang.specs.Rules.{Split, SplitItems, SplitRun, split_hole, split_nt, split_named, split_in_hole, split_closed, split_seq, split_here, split_behind, split_many, run_here, run_there, run_behind}
use Rattle.rdx_lang.specs.WellFormed.{has_known_nonterminals, have_known_nonterminals}
use Rattle.rdx_lang.specs.declared.pattern.Ref.{Ref}
use Rattle.rdx_bind.specs.Choices.{ArePlain}
use Rattle.rdx_bind.proofs.NoSets.{join_plain, repetition_plain}
use Rattle.rdx_opened.specs.Opening.{Mark, Opens, OpensItems, opens_wild, opens_kind, opens_except, opens_prefix, opens_hole, opens_lit, opens_nt, opens_named, opens_differ, opens_in_hole, opens_hide_hole, opens_closed, opens_seq, opens_none, opens_one, opens_many}

-- ---- no sets

-- one binding more
more_plain : {c : Binding} {cs : List Binding} → c.differs ≡ [] → ArePlain cs → ArePlain (c ∷ cs)
more_plain e f b (here g) = ap (λ (d : Binding). d.differs) g ∙ e
more_plain e f b (there i) = f b i

mutual
  -- a match of an opened pattern has no sets
  pub opened_match-plain : {L : Language} {p o : Pattern} {ms : List Mark} {t : Tree} {c : Binding} → Opens p o ms → Match L o t c → c.differs ≡ []
  opened_match-plain opens_wild match_wild = refl
  opened_match-plain opens_kind (match_kind m) = refl
  opened_match-plain opens_except (match_except m) = refl
  opened_match-plain opens_prefix (match_prefix m) = refl
  opened_match-plain opens_hole match_hole = refl
  opened_match-plain opens_lit (match_lit m) = refl
  opened_match-plain opens_nt (match_nt a m) = refl
  opened_match-plain (opens_named h) (match_named m j) = join_plain j (opened_match-plain h m) refl
  opened_match-plain (opens_differ h) (match_named m j) = join_plain j (opened_match-plain h m) refl
  opened_match-plain (opens_in_hole h k) (match_in_hole m n j) = join_plain j (opened_split-plain h m) (opened_match-plain k n)
  opened_match-plain (opens_hide_hole h) (match_hide_hole m) = opened_match-plain h m
  opened_match-plain opens_closed (match_closed m) = refl
  opened_match-plain (opens_seq h) (match_seq m) = opened_items-plain h m

  -- nor have items that match
  pub opened_items-plain : {L : Language} {ps os : Items} {ms : List Mark} {ts : Trees} {c : Binding} → OpensItems ps os ms → MatchItems L os ts c
      → c.differs ≡ []
  opened_items-plain opens_none match_none = refl
  opened_items-plain (opens_one h k) (match_one m n j) = join_plain j (opened_match-plain h m) (opened_items-plain k n)
  opened_items-plain (opens_many h k) (match_many r i j) = join_plain j (repetition_plain i (opened_turns-plain h r)) (opened_behind-plain k r)

  -- nor has a turn of a run
  pub opened_turns-plain : {L : Language} {p o : Pattern} {ms : List Mark} {os : Items} {ts : Trees} {cs : List Binding} {d : Binding} → Opens p o ms
      → MatchRun L o os ts cs d → ArePlain cs
  opened_turns-plain h (run_end m) = λ b i. elim i [ ]
  opened_turns-plain h (run_more m r) = more_plain (opened_match-plain h m) (opened_turns-plain h r)

  -- nor have the items behind the turns
  pub opened_behind-plain : {L : Language} {o : Pattern} {ps os : Items} {ms : List Mark} {ts : Trees} {cs : List Binding} {d : Binding}
      → OpensItems ps os ms → MatchRun L o os ts cs d → d.differs ≡ []
  opened_behind-plain k (run_end m) = opened_items-plain k m
  opened_behind-plain k (run_more m r) = opened_behind-plain k r

  -- nor has a split
  pub opened_split-plain : {L : Language} {p o : Pattern} {ms : List Mark} {t C s : Tree} {c : Binding} → Opens p o ms → Split L o t C s c
      → c.differs ≡ []
  opened_split-plain opens_wild m = elim m [ ]
  opened_split-plain opens_kind m = elim m [ ]
  opened_split-plain opens_except m = elim m [ ]
  opened_split-plain opens_prefix m = elim m [ ]
  opened_split-plain opens_hole split_hole = refl
  opened_split-plain opens_lit m = elim m [ ]
  opened_split-plain opens_nt (split_nt a m) = refl
  opened_split-plain (opens_named h) (split_named m j) = join_plain j (opened_split-plain h m) refl
  opened_split-plain (opens_differ h) (split_named m j) = join_plain j (opened_split-plain h m) refl
  opened_split-plain (opens_in_hole h k) (split_in_hole m n f j) = join_plain j (opened_split-plain h m) (opened_split-plain k n)
  opened_split-plain (opens_hide_hole h) m = elim m [ ]
  opened_split-plain opens_closed (split_closed m) = refl
  opened_split-plain (opens_seq h) (split_seq m f) = opened_split_items-plain h m

  -- nor have items of which one splits
  pub opened_split_items-plain : {L : Language} {ps os : Items} {ms : List Mark} {ts : Trees} {k : ℕ} {D s : Tree} {c : Binding}
      → OpensItems ps os ms
      → SplitItems L os ts k D s c → c.differs ≡ []
  opened_split_items-plain opens_none m = elim m [ ]
  opened_split_items-plain (opens_one h k) (split_here m n j) = join_plain j (opened_split-plain h m) (opened_items-plain k n)
  opened_split_items-plain (opens_one h k) (split_behind m n j) = join_plain j (opened_match-plain h m) (opened_split_items-plain k n)
  opened_split_items-plain (opens_many h k) (split_many r i j) =
      join_plain j (repetition_plain i (opened_split_turns-plain h r)) (opened_split_behind-plain k r)

  -- nor has a turn of a run in which one term is split
  pub opened_split_turns-plain : {L : Language} {p o : Pattern} {ms : List Mark} {os : Items} {ts : Trees} {k : ℕ} {D s : Tree} {cs : List Binding}
      {d : Binding} → Opens p o ms → SplitRun L o os ts k D s cs d → ArePlain cs
  opened_split_turns-plain h (run_here m r) = more_plain (opened_split-plain h m) (opened_turns-plain h r)
  opened_split_turns-plain h (run_there m r) = more_plain (opened_match-plain h m) (opened_split_turns-plain h r)
  opened_split_turns-plain h (run_behind m) = λ b i. elim i [ ]

  -- nor have the items behind them
  pub opened_split_behind-plain : {L : Language} {o : Pattern} {ps os : Items} {ms : List Mark} {ts : Trees} {k : ℕ} {D s : Tree} {cs : List Binding}
      {d : Binding} → OpensItems ps os ms → SplitRun L o os ts k D s cs d → d.differs ≡ []
  opened_split_behind-plain k (run_here m r) = opened_behind-plain k r
  opened_split_behind-plain k (run_there m r) = opened_split_behind-plain k r
  opened_split_behind-plain k (run_behind m) = opened_split_items-plain k m

-- ---- nonterminals

-- two tests of two parts each
both_same : {a b c d : Bool} → a ≡ b → c ≡ d → (a && c) ≡ (b && d)
both_same e f = λ i. e i && f i

mutual
  -- the nonterminals of an opened pattern are those of the pattern
  pub opened-known : (xs : List Ref) {p o : Pattern} {ms : List Mark} → Opens p o ms → has_known_nonterminals xs p ≡ has_known_nonterminals xs o
  opened-known xs opens_wild = refl
  opened-known xs opens_kind = refl
  opened-known xs opens_except = refl
  opened-known xs opens_prefix = refl
  opened-known xs opens_hole = refl
  opened-known xs opens_lit = refl
  opened-known xs opens_nt = refl
  opened-known xs (opens_named h) = opened-known xs h
  opened-known xs (opens_differ h) = opened-known xs h
  opened-known xs (opens_in_hole h k) = both_same (opened-known xs h) (opened-known xs k)
  opened-known xs (opens_hide_hole h) = opened-known xs h
  opened-known xs opens_closed = refl
  opened-known xs (opens_seq h) = opened_items-known xs h

  -- so are those of items
  pub opened_items-known : (xs : List Ref) {ps os : Items} {ms : List Mark} → OpensItems ps os ms
      → have_known_nonterminals xs ps ≡ have_known_nonterminals xs os
  opened_items-known xs opens_none = refl
  opened_items-known xs (opens_one h k) = both_same (opened-known xs h) (opened_items-known xs k)
  opened_items-known xs (opens_many h k) = both_same (opened-known xs h) (opened_items-known xs k)
