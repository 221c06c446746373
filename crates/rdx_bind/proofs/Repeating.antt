-- What a repetition binds whose turns bind one of each row.
use Rattle.std.proofs.Common.{◌≡◌, ℕ, suc, ◌+◌, ◌⊎◌, inl, inr, List, [], ◌∷◌, ◌++◌, length, Option, Some, None, IfNone, length-append, refl}
use Rattle.std.proofs.Common.{sym, ◌∙◌, ap, subst, arith}
use Rattle.std.proofs.lemmas.List.{length-map}
use Rattle.rdx_lang.proofs.Collecting.{In_along, no_member, only}
use Rattle.rdx_lang.proofs.CollectionLaws.{AreMaps, BindNames, one_collection}
use Rattle.rdx_lang.proofs.JoinLaws.{one_join}
use Rattle.rdx_lang.proofs.MemberLaws.{in-append}
use Rattle.rdx_lang.proofs.SetJoins.{no_sets_left}
use Rattle.rdx_lang.specs.Ascending.{IsAscending}
use Rattle.rdx_lang.specs.Bindings.{len, Mismatch, Binding, bound_names, name_cmp, no_names, one_name, AreSets, HasAscendingNames}
use Rattle.rdx_lang.specs.Collections.{AreSetsOf, sets_of_none, sets_of_more, IsCollection, IsRepetition, without_length, with_length}
use Rattle.rdx_lang.specs.Collecting.{Adds, Arises, HasExactly}
use Rattle.rdx_lang.specs.Join.{JoinsSets, IsJoin}
use Rattle.rdx_lang.specs.Members.{In, here, there}
use Rattle.rdx_bind.proofs.ChoiceLaws.{continued_more}
use Rattle.rdx_bind.specs.Choices.{IsChoice, choice_end, choice_more, IsLonger, IsContinued, RowsBind, ArePlain, RowsArePlain, NoneEmpty, IsCounted}
use Rattle.rdx_bind.specs.Choices.{not_counted, counted, Repeats}
use Rattle.rdx_bind.specs.Ends.{rows_around}
use Rattle.rdx_bind.specs.Rows.{SplitRow, all_matches}

-- ---- loops that test all members

-- one that comes first and passes leaves those behind it
pub passed : {A : Type 0} (P : A → Type 0) (x y : A) (more : List A) → P y → In x (y ∷ more) ⊎ P x → In x more ⊎ P x
passed P x y more e (inl (here f)) = inr (subst P (sym f) e)
passed P x y more e (inl (there h)) = inl h
passed P x y more e (inr f) = inr f

-- ---- the number of turns

-- the collection with the number of the turns is what the repetition binds
pub counted_repetition : {xs : List (List ℕ)} {cs : List Binding} {x : Option (List ℕ)} {c b : Binding} → IsCollection xs cs c →
    IsCounted c (length cs) x b → IsRepetition xs cs x b
counted_repetition h not_counted = without_length h
counted_repetition h (counted j) = with_length h j

-- what the repetition binds is the collection with the number of the turns
pub repetition_counted : {xs : List (List ℕ)} {cs : List Binding} {x : Option (List ℕ)} {b : Binding} (c : Binding) →
    IsAscending name_cmp xs → AreMaps cs → IsCollection xs cs c → IsRepetition xs cs x b → IsCounted c (length cs) x b
repetition_counted {xs = xs} {cs = cs} {b = b} c a m h (without_length g) =
    subst (λ (d : Binding). IsCounted c (length cs) None d) (one_collection xs cs c b a m h g) not_counted
repetition_counted {xs = xs} {cs = cs} {b = b} c a m h (with_length {x = x} {c = d} g j) =
    counted (subst (λ (e : Binding). IsJoin e (one_name x (len (length cs))) b) (one_collection xs cs d c a m g h) j)

-- a binding is counted in one way
pub one_counted : {c : Binding} {n : ℕ} {x : Option (List ℕ)} {b d : Binding} → IsCounted c n x b → IsCounted c n x d → d ≡ b
one_counted not_counted not_counted = refl
one_counted {c = c} {n = n} {b = b} {d = d} (counted {x = x} j) (counted k) = one_join c (one_name x (len n)) d b k j

-- where the length name stands for something else, there is no binding
pub never_counted : {c : Binding} {n : ℕ} {x : List ℕ} (b : Binding) → ¬ IsJoin c (one_name x (len n)) b → ¬ IsCounted c n (Some x) b
never_counted b f (counted j) = f j

-- what holds where there is no value, and what follows from it
pub if_none_then : {X P Q : Type 0} (r : Option X) → IfNone r P → (P → Q) → IfNone r Q
if_none_then None p f = f p
if_none_then (Some x) p f = tt

-- nothing is added where R holds of nothing
pub adds_nothing : {A : Type 0} (R : A → Type 0) (xs : List A) → ((x : A) → ¬ R x) → Adds R xs xs
adds_nothing R xs f x = (λ i. inl i, elim [ inl i ↦ i | inr r ↦ absurd (f x r) ])

-- ---- choices

-- a choice of rows that have it has it
pub choice_has : {P : Binding → Type 0} (rows : List (List Binding)) (cs : List Binding)
    → ((row : List Binding) → In row rows → (b : Binding) → In b row → P b) → IsChoice rows cs → (b : Binding) → In b cs → P b
choice_has [] [] h choice_end b i = no_member i
choice_has [] (c ∷ cs) h k b i = elim k [ ]
choice_has (row ∷ rows) [] h k b i = elim k [ ]
choice_has {P} (row ∷ rows) (c ∷ cs) h (choice_more i k) b (here e) = subst P (sym e) (h row (here refl) c i)
choice_has (row ∷ rows) (c ∷ cs) h (choice_more i k) b (there m) = choice_has rows cs (λ r j. h r (there j)) k b m

-- a choice binds the names of its rows
pub choice_binds : {xs : List (List ℕ)} (rows : List (List Binding)) (cs : List Binding) → RowsBind xs rows → IsChoice rows cs →
    BindNames xs cs
choice_binds [] [] h choice_end b i = no_member i
choice_binds [] (c ∷ cs) h k b i = elim k [ ]
choice_binds (row ∷ rows) [] h k b i = elim k [ ]
choice_binds {xs = xs} (row ∷ rows) (c ∷ cs) h (choice_more i k) b (here e) =
    subst (λ (d : Binding). bound_names d ≡ xs) (sym e) (h row c (here refl) i)
choice_binds (row ∷ rows) (c ∷ cs) h (choice_more i k) b (there m) = choice_binds rows cs (λ r d j l. h r d (there j) l) k b m

-- so do the lists that have exactly the choices
pub choices_bind : {xs : List (List ℕ)} {rows lists : List (List Binding)} → RowsBind xs rows → HasExactly lists (IsChoice rows) →
    RowsBind xs lists
choices_bind {rows = rows} h g cs b i j = choice_binds rows cs h (g.sound cs i) b j

-- it has one of each row
pub choice_length : {rows : List (List Binding)} {cs : List Binding} → IsChoice rows cs → length cs ≡ length rows
choice_length choice_end = refl
choice_length (choice_more i k) = ap suc (choice_length k)

-- cells and one turn between them
pub around_length : (before : List SplitRow) (c : Binding) (between : List SplitRow) →
    length (rows_around before c between) ≡ length before + length between + 1
around_length before c between =
    let e = length-append (all_matches before) ((c ∷ []) ∷ all_matches between) in
    let f = length-map before (λ (row : SplitRow). row.matches) in
    let g = length-map between (λ (row : SplitRow). row.matches) in
    omega arith

-- a row that isn't empty has a member
some_member : (row : List Binding) → ¬ (row ≡ []) → (c : Binding) × In c row
some_member [] f = absurd (f refl)
some_member (c ∷ row) f = (c, here refl)

-- where no row is empty there is a choice
pub some_choice : (rows : List (List Binding)) → NoneEmpty rows → (cs : List Binding) × IsChoice rows cs
some_choice [] h = ([], choice_end)
some_choice (row ∷ rows) h =
    let c = some_member row (h row (here refl)) in
    let cs = some_choice rows (λ r i. h r (there i)) in
    (c.0 ∷ cs.0, choice_more c.1 cs.1)

-- choices of two parts
pub choice_append : {xs ys : List (List Binding)} {cs ds : List Binding} → IsChoice xs cs → IsChoice ys ds →
    IsChoice (xs ++ ys) (cs ++ ds)
choice_append choice_end k = k
choice_append (choice_more i h) k = choice_more i (choice_append h k)

-- a choice of all is one of each part
pub choice_parts : (xs ys : List (List Binding)) (es : List Binding) → IsChoice (xs ++ ys) es →
    (cs : List Binding) × (ds : List Binding) × IsChoice xs cs × IsChoice ys ds × (es ≡ cs ++ ds)
choice_parts [] ys es k = ([], es, choice_end, k, refl)
choice_parts (row ∷ xs) ys [] k = elim k [ ]
choice_parts (row ∷ xs) ys (c ∷ es) (choice_more i k) =
    let p = choice_parts xs ys es k in
    (c ∷ p.0, p.1, choice_more i p.2, p.3, ap (λ (fs : List Binding). c ∷ fs) p.4)

-- the choices of the first rows, continued by those of the others, are the choices of all
pub choices_continued : (xs ys lists more : List (List Binding)) → HasExactly lists (IsChoice xs) →
    HasExactly more (Arises (IsContinued ys) lists) → HasExactly more (IsChoice (xs ++ ys))
choices_continued xs ys lists more h g =
    record { sound = λ es i. onward es (g.sound es i); complete = λ es k. g.complete es (back es (choice_parts xs ys es k)) }
  where
    onward : (es : List Binding) → Arises (IsContinued ys) lists es → IsChoice (xs ++ ys) es
    onward es a = subst (λ (fs : List Binding). IsChoice (xs ++ ys) fs) (sym a.by.2) (choice_append (h.sound a.from a.among) a.by.1)

    back : (es : List Binding) → ((cs : List Binding) × (ds : List Binding) × IsChoice xs cs × IsChoice ys ds × (es ≡ cs ++ ds)) →
        Arises (IsContinued ys) lists es
    back es p = record { from = p.0; among = h.complete p.0 p.2; by = (p.1, p.3, p.4) }

-- from the list of no binding come the choices of all rows
pub all_choices : (xs firsts lists : List (List Binding)) → firsts ≡ [] ∷ [] → HasExactly lists (Arises (IsContinued xs) firsts) →
    HasExactly lists (IsChoice xs)
all_choices xs firsts lists e h = choices_continued [] xs firsts lists none h
  where
    end : (cs : List Binding) → IsChoice [] cs → In cs ([] ∷ [])
    end cs choice_end = here refl

    none : HasExactly firsts (IsChoice [])
    none = record {
      sound = λ cs i. subst (IsChoice []) (sym (only (In_along firsts ([] ∷ []) e i))) choice_end;
      complete = λ cs k. In_along ([] ∷ []) firsts (sym e) (end cs k);
    }

-- with one of one row more and then those of others
pub choices_around : (xs : List (List Binding)) (row : List Binding) (ys lists longer more : List (List Binding)) →
    HasExactly lists (IsChoice xs) →
    HasExactly longer (Arises (IsLonger row) lists) → HasExactly more (Arises (IsContinued ys) longer) → HasExactly more (IsChoice (xs ++ row ∷ ys))
choices_around xs row ys lists longer more h l m = choices_continued xs (row ∷ ys) lists more h (record {
  sound = λ cs i. (continued_more row ys lists longer l cs).0 (m.sound cs i);
  complete = λ cs a. m.complete cs ((continued_more row ys lists longer l cs).1 a);
})

-- ---- what is bound

-- what the repetition binds in each choice
pub repeats_exactly : {xs : List (List ℕ)} {x : Option (List ℕ)} {rows lists : List (List Binding)} {found : List Binding} →
    HasExactly lists (IsChoice rows) →
    HasExactly found (Arises (λ cs. IsRepetition xs cs x) lists) → HasExactly found (Repeats xs x rows)
repeats_exactly h g = record {
  sound = λ c i. let a = g.sound c i in record { turns = a.from; choice = h.sound a.from a.among; repetition = a.by };
  complete = λ c r. g.complete c (record { from = r.turns; among = h.complete r.turns r.choice; by = r.repetition });
}

-- bindings without mismatch names have no sets
no_sets : (cs : List Binding) → ArePlain cs → AreSetsOf cs []
no_sets [] h = sets_of_none
no_sets (c ∷ cs) h =
    sets_of_more (no_sets cs (λ b i. h b (there i)))
    (subst (λ (ms : List Mismatch). JoinsSets ms [] []) (sym (h c (here refl))) (no_sets_left [] (tt, tt)))

-- the binding of no name is the collection of no names, where there are no mismatch names
no_collection : (cs : List Binding) → ArePlain cs → IsCollection [] cs no_names
no_collection cs h = record { names = refl; sequences = λ x v i. no_member i; differs = no_sets cs h }

-- what binds no name, and has no mismatch name, is a finite map
plain_map : (b : Binding) → bound_names b ≡ [] → b.differs ≡ [] → HasAscendingNames b
plain_map b e f =
    (subst (λ (xs : List (List ℕ)). IsAscending name_cmp xs) (sym e) tt, subst (λ (ms : List Mismatch). AreSets ms) (sym f) (tt, tt))

-- without names and mismatch names the number of turns alone counts
pub repeats_unnamed : (xs : List (List ℕ)) (x : Option (List ℕ)) (rows : List (List Binding)) (found : List Binding) → xs ≡ [] →
    RowsBind xs rows → RowsArePlain rows → NoneEmpty rows →
    HasExactly found (IsCounted no_names (length rows) x) → HasExactly found (Repeats xs x rows)
repeats_unnamed xs x rows found e f w h g =
    record { sound = λ c i. onward c (some_choice rows h) (g.sound c i); complete = λ c r. g.complete c (back c r) }
  where
    plain : (cs : List Binding) → IsChoice rows cs → ArePlain cs
    plain cs k = choice_has {P = λ b. b.differs ≡ []} rows cs w k

    onward : (c : Binding) → ((cs : List Binding) × IsChoice rows cs) → IsCounted no_names (length rows) x c → Repeats xs x rows c
    onward c p n = record {
      turns = p.0;
      choice = p.1;
      repetition = counted_repetition (subst (λ (ys : List (List ℕ)). IsCollection ys p.0 no_names) (sym e) (no_collection p.0 (plain p.0 p.1)))
          (subst (λ (m : ℕ). IsCounted no_names m x c) (sym (choice_length p.1)) n);
    }

    unnamed : RowsBind [] rows
    unnamed = subst (λ (ys : List (List ℕ)). RowsBind ys rows) e f

    maps : (cs : List Binding) → IsChoice rows cs → AreMaps cs
    maps cs k b i = plain_map b (choice_binds rows cs unnamed k b i) (plain cs k b i)

    back : (c : Binding) → Repeats xs x rows c → IsCounted no_names (length rows) x c
    back c r = subst (λ (m : ℕ). IsCounted no_names m x c) (choice_length r.choice)
        (repetition_counted no_names tt (maps r.turns r.choice) (no_collection r.turns (plain r.turns r.choice))
        (subst (λ (ys : List (List ℕ)). IsRepetition ys r.turns x c) e r.repetition))

-- one binding between rows, all without mismatch names
pub around_plain : (before : List SplitRow) (c : Binding) (between : List SplitRow) → RowsArePlain (all_matches before) → c.differs ≡ []
    → RowsArePlain (all_matches between) → RowsArePlain (rows_around before c between)
around_plain before c between f e g row i b k = by_part (in-append (all_matches before) ((c ∷ []) ∷ all_matches between) row i)
  where
    of_turn : In b (c ∷ []) → b.differs ≡ []
    of_turn j = ap (λ (d : Binding). d.differs) (only j) ∙ e

    by_row : In row ((c ∷ []) ∷ all_matches between) → b.differs ≡ []
    by_row (here h) = of_turn (In_along row (c ∷ []) h k)
    by_row (there j) = g row j b k

    by_part : In row (all_matches before) ⊎ In row ((c ∷ []) ∷ all_matches between) → b.differs ≡ []
    by_part (inl j) = f row j b k
    by_part (inr j) = by_row j

-- what there is no collection of, no repetition binds
pub never_repeated : {xs : List (List ℕ)} {cs : List Binding} {x : Option (List ℕ)} → ((c : Binding) → ¬ IsCollection xs cs c)
    → (b : Binding) → ¬ IsRepetition xs cs x b
never_repeated n b (without_length h) = n b h
never_repeated n b (with_length {c = c} h j) = n c h
