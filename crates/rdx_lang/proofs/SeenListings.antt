-- Listings of bindings without mismatch names are listings of what is seen of them; and what is seen of a match.
use Rattle.std.proofs.Common.{◌≡◌, List, [], ◌∷◌, sym, ◌∙◌, ap, subst}
use Rattle.rdx_term.specs.Tree.{Tree}
use Rattle.rdx_lang.specs.Bindings.{Binding, bound_names, visible, HasAscendingNames}
use Rattle.rdx_lang.specs.Decompositions.{Decomposition}
use Rattle.rdx_lang.specs.Listing.{IsSeen, AllMatches, Matches, AllSplits, Splits, SplitsVisibly}
use Rattle.rdx_lang.specs.Members.{In, here, there}
use Rattle.rdx_lang.specs.Names.{names}
use Rattle.rdx_lang.specs.Patterns.{Pattern, Language}
use Rattle.rdx_lang.specs.Rules.{Match}
use Rattle.rdx_lang.proofs.NameLaws.{match-names}

-- what has no mismatch name is seen whole
pub seen_whole : (b : Binding) → b.differs ≡ [] → b ≡ visible b
seen_whole b e = λ i. record { pairs = b.pairs; differs = e i }

-- these bindings have none
abbrev pub ArePlain : List Binding → Type 0
ArePlain [] = Unit {0}
ArePlain (b ∷ bs) = (b.differs ≡ []) × ArePlain bs

-- nor have those of these splits
abbrev pub SplitsArePlain : List Decomposition → Type 0
SplitsArePlain [] = Unit {0}
SplitsArePlain (d ∷ ds) = (d.binding.differs ≡ []) × SplitsArePlain ds

-- so none of their members has
plain-member : (bs : List Binding) → ArePlain bs → (b : Binding) → In b bs → b.differs ≡ []
plain-member [] h b i = elim i [ ]
plain-member (c ∷ bs) h b (here e) = ap (λ (d : Binding). d.differs) e ∙ h.0
plain-member (c ∷ bs) h b (there i) = plain-member bs h.1 b i

plain-split : (ds : List Decomposition) → SplitsArePlain ds → (d : Decomposition) → In d ds → d.binding.differs ≡ []
plain-split [] h d i = elim i [ ]
plain-split (c ∷ ds) h d (here e) = ap (λ (f : Decomposition). f.binding.differs) e ∙ h.0
plain-split (c ∷ ds) h d (there i) = plain-split ds h.1 d i

-- all matches, where no mismatch name is bound
pub matches_listed : {L : Language} {p : Pattern} {t : Tree} {bs : List Binding} → ArePlain bs → AllMatches L p t bs → Matches L p t bs
matches_listed {bs = bs} h l = record {
  ascending = l.ascending;
  sound = λ b i. record { whole = b; holds = l.sound b i; seen = seen_whole b (plain-member bs h b i) };
  complete = λ b s.
      let i : In s.whole bs = l.complete s.whole s.holds in
      subst (λ (c : Binding). In c bs) (seen_whole s.whole (plain-member bs h s.whole i) ∙ sym s.seen) i;
}

-- the split with its whole binding
abbrev whole_split : (d : Decomposition) → Binding → Decomposition
whole_split d b = record { context = d.context; part = d.part; binding = b }

-- all splits, where none is bound
pub splits_listed : {L : Language} {p : Pattern} {t : Tree} {ds : List Decomposition} → SplitsArePlain ds → AllSplits L p t ds → Splits L p t ds
splits_listed {L = L} {p = p} {t = t} {ds = ds} h l = record {
  ascending = l.ascending;
  sound = λ d i. record { whole = d.binding; holds = l.sound d i; seen = seen_whole d.binding (plain-split ds h d i) };
  complete = complete;
}
  where
    complete : (d : Decomposition) → SplitsVisibly L p t d → In d ds
    complete d s =
        let i : In (whole_split d s.whole) ds = l.complete (whole_split d s.whole) s.holds in
        let e : s.whole ≡ d.binding = seen_whole s.whole (plain-split ds h (whole_split d s.whole) i) ∙ sym s.seen in
        subst (λ (c : Decomposition). In c ds) (λ j. whole_split d (e j)) i

-- ---- what is seen of a match

-- it has no mismatch names
pub seen-plain : {R : Binding → Type 0} {b : Binding} → IsSeen R b → b.differs ≡ []
seen-plain s = ap (λ (c : Binding). c.differs) s.seen

-- it is a finite map where the whole is
pub seen-ascends : {R : Binding → Type 0} {b : Binding} → ((c : Binding) → R c → HasAscendingNames c) → IsSeen R b → HasAscendingNames b
seen-ascends f s = subst HasAscendingNames (sym s.seen) ((f s.whole s.holds).0, (tt, tt))

-- and binds the names of the pattern
pub seen-names : {L : Language} {p : Pattern} {t : Tree} {b : Binding} → IsSeen (Match L p t) b → bound_names b ≡ names p
seen-names s = ap bound_names s.seen ∙ match-names s.holds
