-- Choices of one binding of each of several rows: lists that grow row by row.
use Rattle.std.proofs.Common.{◌≡◌, ◌∙◌, ◌↔◌, ◌⊎◌, inl, inr, List, [], ◌∷◌, ◌++◌, append_assoc, append-nil, refl, sym, ap, subst}
use Rattle.rdx_lang.proofs.Collecting.{In_along, only}
use Rattle.rdx_lang.proofs.MemberLaws.{in-append, append-left, append-right}
use Rattle.rdx_lang.specs.Bindings.{Binding}
use Rattle.rdx_lang.specs.Collecting.{Adds, Arises, HasExactly}
use Rattle.rdx_lang.specs.Members.{In, here, there}
use Rattle.rdx_bind.specs.Choices.{IsChoice, choice_end, choice_more, IsWith, IsLonger, IsContinued}

-- what is added for the other bindings of a row, and then for its first, is added for all
pub adds_longer : (first : Binding) (others cs : List Binding) (old mid new : List (List Binding)) →
    Adds (IsLonger others cs) old mid → new ≡ mid ++ (cs ++ first ∷ []) ∷ [] → Adds (IsLonger (first ∷ others) cs) old new
adds_longer first others cs old mid new a e ds =
    (λ i. last (in-append mid (longer ∷ []) ds (In_along new (mid ++ longer ∷ []) e i)), back)
  where
    longer : List Binding
    longer = cs ++ first ∷ []

    before : In ds old ⊎ IsLonger others cs ds → In ds old ⊎ IsLonger (first ∷ others) cs ds
    before (inl o) = inl o
    before (inr r) = inr (record { from = r.from; among = there r.among; by = r.by })

    last : In ds mid ⊎ In ds (longer ∷ []) → In ds old ⊎ IsLonger (first ∷ others) cs ds
    last (inl i) = before ((a ds).0 i)
    last (inr i) = inr (record { from = first; among = here refl; by = only i })

    kept : In ds mid → In ds new
    kept i = In_along (mid ++ longer ∷ []) new (sym e) (append-left mid (longer ∷ []) ds i)

    by_place : (c : Binding) → In c (first ∷ others) → IsWith cs c ds → In ds new
    by_place c (here f) w =
        In_along (mid ++ longer ∷ []) new (sym e) (append-right mid (longer ∷ []) ds (here (w ∙ ap (λ (b : Binding). cs ++ b ∷ []) f)))
    by_place c (there i) w = kept ((a ds).1 (inr (record { from = c; among = i; by = w })))

    back : In ds old ⊎ IsLonger (first ∷ others) cs ds → In ds new
    back (inl o) = kept ((a ds).1 (inl o))
    back (inr r) = by_place r.from r.among r.by

-- a list is continued by the bindings of the rows where, one binding longer, it is continued by those of the other rows
pub continued_more : (row : List Binding) (rows lists longer : List (List Binding)) → HasExactly longer (Arises (IsLonger row) lists) →
    (cs : List Binding) → (Arises (IsContinued rows) longer cs ↔ Arises (IsContinued (row ∷ rows)) lists cs)
continued_more row rows lists longer h cs = (λ a. onward a (h.sound a.from a.among), λ a. back a a.by.0 a.by.1 a.by.2)
  where
    onward : (a : Arises (IsContinued rows) longer cs) → Arises (IsLonger row) lists a.from → Arises (IsContinued (row ∷ rows)) lists cs
    onward a l = record {
      from = l.from;
      among = l.among;
      by =
          (l.by.from ∷ a.by.0, choice_more l.by.among a.by.1, a.by.2 ∙ ap (λ (ds : List Binding). ds ++ a.by.0) l.by.by ∙ append_assoc l.from (l.by.from ∷ []) a.by.0);
    }

    back : (a : Arises (IsContinued (row ∷ rows)) lists cs) (es : List Binding) → IsChoice (row ∷ rows) es → cs ≡ a.from ++ es →
        Arises (IsContinued rows) longer cs
    back a es (choice_more {c = c} {cs = ds} i k) e = record {
      from = a.from ++ c ∷ [];
      among = h.complete (a.from ++ c ∷ []) (record { from = a.from; among = a.among; by = record { from = c; among = i; by = refl } });
      by = (ds, k, e ∙ sym (append_assoc a.from (c ∷ []) ds));
    }

-- with no rows there are the lists alone
pub continued_none : (lists : List (List Binding)) (cs : List Binding) → (Arises (IsContinued []) lists cs ↔ In cs lists)
continued_none lists cs =
    (λ a. same a a.by.0 a.by.1 a.by.2, λ i. record { from = cs; among = i; by = ([], choice_end, sym (append-nil cs)) })
  where
    same : (a : Arises (IsContinued []) lists cs) (es : List Binding) → IsChoice [] es → cs ≡ a.from ++ es → In cs lists
    same a es choice_end e = subst (λ (ds : List Binding). In ds lists) (sym (e ∙ append-nil a.from)) a.among
