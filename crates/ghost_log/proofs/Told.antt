-- Facts that the steps of a call give if the owner's view is known.
use Rattle.std.proofs.Common.{◌≡◌, ℕ, List, [], ◌∷◌, Some, None, refl, ap, sym, subst, ◌∙◌}
use Rattle.atomic_table.specs.Table.{Me, Step}
use Rattle.ghost_log.specs.declared.view.WriterView.{WriterView}
use Rattle.ghost_log.specs.declared.view.Contents.{Contents}
use Rattle.ghost_log.specs.declared.view.View.{View}
use Rattle.ghost_log.specs.declared.view.View.TheVariants.{Owner, OfWriter, Empty}
use Rattle.ghost_log.specs.Entries.{Entry, events_by}
use Rattle.ghost_log.specs.Rule.{contents}
use Rattle.ghost_log.specs.Calls.{known_in}
use Rattle.ghost_log.specs.Steps.{view_taken_in, appended_contents, appends, GivesFacts}

module _ {E : Type 0} where
  abbrev head : List (View E) → View E
  head [] = Empty
  head (v ∷ vs) = v

  -- the one view of a token
  pub one_view : (vs : List (View E)) (v w : View E) → vs ≡ v ∷ [] → vs ≡ w ∷ [] → v ≡ w
  one_view vs v w e f = ap head (sym e ∙ f)

  pub appends_at : (events : List E) (st : Step (Unit {0})) (c : Contents E) (me : Me (Unit {0}) (View E)) (n : ℕ) (after : Me (Unit {0}) (View E)) → me ≡ (Owner c, []) → appends events st me n after → GivesFacts c × (after ≡ (Owner (appended_contents events c c.transit), []))
  appends_at events st c me n after is h = subst (λ (m : Me (Unit {0}) (View E)). appends events st m n after) is h

  -- the owner has the writer in transit
  pub taken : (log : List (Entry E)) (writers : ℕ) (k : WriterView E) (me : Me (Unit {0}) (View E)) (v : View E) (after : Me (Unit {0}) (View E)) → me ≡ (Owner (contents log writers None), []) → v ≡ OfWriter k → after ≡ (view_taken_in me.0 v, me.1) → after ≡ (Owner (contents log writers (Some k)), [])
  taken log writers k me v after is held to = to ∙ (ap (λ (m : Me (Unit {0}) (View E)). (view_taken_in m.0 v, m.1)) is ∙ ap (λ (u : View E). (view_taken_in (Owner (contents log writers None)) u, [])) held)

  -- a token whose view has all its own events in what it has seen
  pub sits : (vs : List (View E)) (k : WriterView E) → vs ≡ OfWriter k ∷ [] → events_by k.number k.seen ≡ k.own → (vs ≡ OfWriter (known_in vs) ∷ []) × (events_by (known_in vs).number (known_in vs).seen ≡ (known_in vs).own)
  sits vs k is own = subst (λ (us : List (View E)). (us ≡ OfWriter (known_in us) ∷ []) × (events_by (known_in us).number (known_in us).seen ≡ (known_in us).own)) (sym is) (refl, own)
