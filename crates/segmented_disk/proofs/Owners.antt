-- Of several processes on one folder, one at most confirms records.
use Rattle.std.proofs.Common.{◌≡◌, ◌≢◌, ℕ, List, [], ◌∷◌, ◌++◌, ◌∙◌, ap, refl, sym, subst, append_assoc, append-nil, inl, inr}
use Rattle.std.proofs.lemmas.Bool.{cases_eq}
use mathlib.Core.List.{IsPrefix}
use Rattle.segmented_disk.specs.Owners.{Stage, Absent, Began, HasCopy, Serves, Process, Folder, in_last, Act, Takes, Copies, Publishes, Adds, Confirms, Changes, IsTake, IsCopy, IsPublish, IsAdd, IsConfirm, Leads, IsRun, IsServed, NobodyTakes, OneWriter}

-- what holds at all times
record IsInOrder (f : Folder) : Type 0 where
  kept : IsPrefix f.confirmed (in_last f)
  serves : (f.processes f.last).stage ≡ Serves
  copied : (f.processes f.owner).stage ≡ HasCopy → IsPrefix f.confirmed (f.processes f.owner).records
  owns : (f.processes f.owner).stage ≡ Serves → f.last ≡ f.owner

prefix_self : (xs : List ℕ) → IsPrefix xs xs
prefix_self xs = ([], append-nil xs)

prefix_longer : (xs ys zs : List ℕ) → IsPrefix xs ys → IsPrefix xs (ys ++ zs)
prefix_longer xs ys zs p = (p.0 ++ zs, sym (append_assoc xs p.0 zs) ∙ ap (λ t. t ++ zs) p.1)

-- ---- stages are distinct

absent_serves : (s : Stage) → s ≡ Absent → s ≡ Serves → ⊥
absent_serves s a b = cc

began_serves : (s : Stage) → s ≡ Began → s ≡ Serves → ⊥
began_serves s a b = cc

began_copied : (s : Stage) → s ≡ Began → s ≡ HasCopy → ⊥
began_copied s a b = cc

copied_serves : (s : Stage) → s ≡ HasCopy → s ≡ Serves → ⊥
copied_serves s a b = cc

-- ---- one process changes

module _ (f g : Folder) (n : ℕ) (p : Process) (c : Changes f n p g) where
  -- its stage and its records
  stage_of : (m : ℕ) → m ≡ n → (g.processes m).stage ≡ p.stage
  stage_of m e = ap (λ k. (g.processes k).stage) e ∙ ap (λ (q : Process). q.stage) c.changed

  records_of : (m : ℕ) → m ≡ n → (g.processes m).records ≡ p.records
  records_of m e = ap (λ k. (g.processes k).records) e ∙ ap (λ (q : Process). q.records) c.changed

  -- those of another one
  stage_else : (m : ℕ) → m ≢ n → (g.processes m).stage ≡ (f.processes m).stage
  stage_else m ne = ap (λ (q : Process). q.stage) (c.others m ne)

  records_else : (m : ℕ) → m ≢ n → (g.processes m).records ≡ (f.processes m).records
  records_else m ne = ap (λ (q : Process). q.records) (c.others m ne)

-- the last segment is the same, and so is what is in it
last_else : (f g : Folder) (n : ℕ) (p : Process) → Changes f n p g → g.last ≡ f.last → f.last ≢ n → in_last g ≡ in_last f
last_else f g n p c same ne = ap (λ k. (g.processes k).records) same ∙ records_else f g n p c f.last ne

serves_else : (f g : Folder) (n : ℕ) (p : Process) → Changes f n p g → g.last ≡ f.last → f.last ≢ n → (f.processes f.last).stage ≡ Serves → (g.processes g.last).stage ≡ Serves
serves_else f g n p c same ne serves = ap (λ k. (g.processes k).stage) same ∙ stage_else f g n p c f.last ne ∙ serves

-- the confirmed records and the last segment are the same
kept_else : (f g : Folder) → IsPrefix f.confirmed (in_last f) → g.confirmed ≡ f.confirmed → in_last g ≡ in_last f → IsPrefix g.confirmed (in_last g)
kept_else f g kept confirmed last = subst (λ t. IsPrefix t (in_last g)) (sym confirmed) (subst (λ t. IsPrefix f.confirmed t) (sym last) kept)

-- a process that does not serve has not made the last segment
other_last : (f : Folder) (n : ℕ) → IsInOrder f → ((f.processes n).stage ≡ Serves → ⊥) → f.last ≢ n
other_last f n o idle e = idle (ap (λ k. (f.processes k).stage) (sym e) ∙ o.serves)

-- the owner is another process, which is as it was
owner_else : (f g : Folder) (n : ℕ) (p : Process) → IsInOrder f → Changes f n p g → g.owner ≡ f.owner → g.last ≡ f.last → g.confirmed ≡ f.confirmed → f.owner ≢ n
    → ((g.processes g.owner).stage ≡ HasCopy → IsPrefix g.confirmed (g.processes g.owner).records) × ((g.processes g.owner).stage ≡ Serves → g.last ≡ g.owner)
owner_else f g n p o c owner last confirmed ne =
    let stage : (g.processes g.owner).stage ≡ (f.processes f.owner).stage = ap (λ k. (g.processes k).stage) owner ∙ stage_else f g n p c f.owner ne in
    let records : (g.processes g.owner).records ≡ (f.processes f.owner).records = ap (λ k. (g.processes k).records) owner ∙ records_else f g n p c f.owner ne in (
      λ at. subst (λ t. IsPrefix t (g.processes g.owner).records) (sym confirmed) (subst (λ t. IsPrefix f.confirmed t) (sym records) (o.copied (sym stage ∙ at))),
      λ at. last ∙ o.owns (sym stage ∙ at) ∙ sym owner,
    )

-- ---- each call keeps the order

takes : (f : Folder) (n : ℕ) (g : Folder) → IsInOrder f → IsTake f n g → IsInOrder g
takes f n g o t =
    let ne : f.last ≢ n = other_last f n o (λ e. absent_serves _ t.stage e) in
    let began : (g.processes g.owner).stage ≡ Began = stage_of f g n _ t.process g.owner t.owner in
    record {
      kept = kept_else f g o.kept t.confirmed (last_else f g n _ t.process t.last ne);
      serves = serves_else f g n _ t.process t.last ne o.serves;
      copied = λ at. absurd (began_copied _ began at);
      owns = λ at. absurd (began_serves _ began at);
    }

copies : (f : Folder) (n : ℕ) (g : Folder) → IsInOrder f → IsCopy f n g → IsInOrder g
copies f n g o t =
    let ne : f.last ≢ n = other_last f n o (λ e. began_serves _ t.stage e) in
    let kept : IsPrefix g.confirmed (in_last g) = kept_else f g o.kept t.confirmed (last_else f g n _ t.process t.last ne) in
    let serves : (g.processes g.last).stage ≡ Serves = serves_else f g n _ t.process t.last ne o.serves in
    elim (cases_eq f.owner n) [
      | inl e ↦
          let here : g.owner ≡ n = t.owner ∙ e in
          let at_copy : (g.processes g.owner).stage ≡ HasCopy = stage_of f g n _ t.process g.owner here in
          record {
            kept = kept;
            serves = serves;
            copied = λ at. subst (λ u. IsPrefix g.confirmed u) (sym (records_of f g n _ t.process g.owner here)) (subst (λ u. IsPrefix u (in_last f)) (sym t.confirmed) o.kept);
            owns = λ at. absurd (copied_serves _ at_copy at);
          }
      | inr other ↦
          let same = owner_else f g n _ o t.process t.owner t.last t.confirmed other in
          record { kept = kept; serves = serves; copied = same.0; owns = same.1 }
    ]

publishes : (f : Folder) (n : ℕ) (g : Folder) → IsInOrder f → IsPublish f n g → IsInOrder g
publishes f n g o t =
    let here : g.owner ≡ n = t.owner ∙ t.owns in
    let serves : (g.processes n).stage ≡ Serves = stage_of f g n _ t.process n refl in
    let at_owner : (g.processes g.owner).stage ≡ Serves = stage_of f g n _ t.process g.owner here in
    let copied : IsPrefix f.confirmed (f.processes n).records = subst (λ k. IsPrefix f.confirmed (f.processes k).records) t.owns (o.copied (ap (λ k. (f.processes k).stage) t.owns ∙ t.stage)) in
    record {
      kept = subst (λ u. IsPrefix u (in_last g)) (sym t.confirmed) (subst (λ u. IsPrefix f.confirmed u) (sym (records_of f g n _ t.process g.last t.last)) copied);
      serves = stage_of f g n _ t.process g.last t.last;
      copied = λ at. absurd (copied_serves _ at at_owner);
      owns = λ at. t.last ∙ sym here;
    }

adds : (f : Folder) (n r : ℕ) (g : Folder) → IsInOrder f → IsAdd f n r g → IsInOrder g
adds f n r g o t =
    let kept : IsPrefix g.confirmed (in_last g) = elim (cases_eq f.last n) [
      | inl e ↦
          let longer : in_last g ≡ in_last f ++ r ∷ [] = records_of f g n _ t.process g.last (t.last ∙ e) ∙ ap (λ k. (f.processes k).records ++ r ∷ []) (sym e) in
          subst (λ u. IsPrefix u (in_last g)) (sym t.confirmed) (subst (λ u. IsPrefix f.confirmed u) (sym longer) (prefix_longer f.confirmed (in_last f) (r ∷ []) o.kept))
      | inr ne ↦ kept_else f g o.kept t.confirmed (last_else f g n _ t.process t.last ne)
    ] in
    let serves : (g.processes g.last).stage ≡ Serves = elim (cases_eq f.last n) [
      | inl e ↦ stage_of f g n _ t.process g.last (t.last ∙ e)
      | inr ne ↦ serves_else f g n _ t.process t.last ne o.serves
    ] in
    elim (cases_eq f.owner n) [
      | inl e ↦
          let at_owner : (g.processes g.owner).stage ≡ Serves = stage_of f g n _ t.process g.owner (t.owner ∙ e) in
          record {
            kept = kept;
            serves = serves;
            copied = λ at. absurd (copied_serves _ at at_owner);
            owns = λ at. t.last ∙ o.owns (ap (λ k. (f.processes k).stage) e ∙ t.stage) ∙ sym t.owner;
          }
      | inr other ↦
          let same = owner_else f g n _ o t.process t.owner t.last t.confirmed other in
          record { kept = kept; serves = serves; copied = same.0; owns = same.1 }
    ]

confirms : (f : Folder) (n : ℕ) (g : Folder) → IsInOrder f → IsConfirm f n g → IsInOrder g
confirms f n g o t =
    let at_owner : (f.processes f.owner).stage ≡ Serves = ap (λ k. (f.processes k).stage) t.owns ∙ t.stage in
    let last : f.last ≡ n = o.owns at_owner ∙ t.owns in
    let all : in_last g ≡ (f.processes n).records = ap (λ (q : ℕ → Process). (q g.last).records) t.processes ∙ ap (λ k. (f.processes k).records) (t.last ∙ last) in
    let still : (g.processes g.owner).stage ≡ Serves = ap (λ (q : ℕ → Process). (q g.owner).stage) t.processes ∙ ap (λ k. (f.processes k).stage) t.owner ∙ at_owner in
    record {
      kept = subst (λ u. IsPrefix u (in_last g)) (sym t.confirmed) (subst (λ u. IsPrefix (f.processes n).records u) (sym all) (prefix_self (f.processes n).records));
      serves = ap (λ (q : ℕ → Process). (q g.last).stage) t.processes ∙ ap (λ k. (f.processes k).stage) t.last ∙ o.serves;
      copied = λ at. absurd (copied_serves _ at still);
      owns = λ at. t.last ∙ o.owns at_owner ∙ sym t.owner;
    }

leads : (f : Folder) (n : ℕ) (a : Act) (g : Folder) → IsInOrder f → Leads f n a g → IsInOrder g
leads f n Takes g o t = takes f n g o t
leads f n Copies g o t = copies f n g o t
leads f n Publishes g o t = publishes f n g o t
leads f n (Adds r) g o t = adds f n r g o t
leads f n Confirms g o t = confirms f n g o t

-- ---- runs

runs : (f : Folder) (cs : List (ℕ × Act)) (g : Folder) → IsInOrder f → IsRun f cs g → IsInOrder g
runs f [] g o same = subst (λ (h : Folder). IsInOrder h) (sym same) o
runs f (c ∷ cs) g o (next, step, rest) = runs next cs g (leads f c.0 c.1 next o step) rest

served : (f : Folder) → IsServed f → IsInOrder f
served f s =
    let at_owner : (f.processes f.owner).stage ≡ Serves = ap (λ k. (f.processes k).stage) s.owner ∙ s.serves in
    record { kept = s.kept; serves = s.serves; copied = λ at. absurd (copied_serves _ at at_owner); owns = λ at. sym s.owner }

-- the owner stays
same_owner : (f : Folder) (n : ℕ) (a : Act) (g : Folder) → a ≢ Takes → Leads f n a g → g.owner ≡ f.owner
same_owner f n Takes g ne t = absurd (ne refl)
same_owner f n Copies g ne t = t.owner
same_owner f n Publishes g ne t = t.owner
same_owner f n (Adds r) g ne t = t.owner
same_owner f n Confirms g ne t = t.owner

owner_stays : (f : Folder) (cs : List (ℕ × Act)) (g : Folder) → NobodyTakes cs → IsRun f cs g → g.owner ≡ f.owner
owner_stays f [] g nobody same = ap (λ (h : Folder). h.owner) same
owner_stays f (c ∷ cs) g (ne, nobody) (next, step, rest) = owner_stays next cs g nobody rest ∙ same_owner f c.0 c.1 next ne step

pub one_writer : OneWriter
one_writer = record {
  kept = λ f g cs s run. (runs f cs g (served f s) run).kept;
  read = λ f g h cs n s run copy. subst (λ t. IsPrefix g.confirmed t) (sym (records_of g h n _ copy.process n refl)) (runs f cs g (served f s) run).kept;
  alone = λ f g h i cs n m take nobody run confirm. sym confirm.owns ∙ owner_stays g cs h nobody run ∙ take.owner;
  late = λ f g n r add ne. last_else f g n _ add.process add.last ne;
}
