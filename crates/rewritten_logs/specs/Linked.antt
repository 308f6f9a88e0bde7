-- Durable states with the same notes, but for contents without a link, which have no meaning.
use Rattle.std.specs.Prelude.{◌≡◌, true}
use Rattle.std.specs.FinMap as fmap
use Rattle.std.specs.Option.{option_map}
use Rattle.noted_logs.specs.Noted.{AreNotedContents, noted_session}
use Rattle.spec_lib.specs.Sets as set
use Rattle.store_model.specs.Catalog.{Catalog, Link, SessionNumber}
use Rattle.store_model.specs.Durable.{Agrees, DurableState, TakenSessions}

-- a link of the state
abbrev pub IsLinkOf : DurableState → Link → Type 0
IsLinkOf D l = set.contains D.links l ≡ true

-- The second state is the first one with notes in place of the contents that have a link.
pub record IsNotedWhereLinked (D N : DurableState) : Type 0 where
  pub tenants : N.tenants ≡ D.tenants
  pub repos : N.repos ≡ D.repos
  pub links : N.links ≡ D.links
  pub manifests : N.manifests ≡ D.manifests
  pub next : N.next ≡ D.next
  pub sessions : (key : SessionNumber) → fmap.get N.sessions key ≡ option_map noted_session (fmap.get D.sessions key)
  pub contents : (l : Link) → IsLinkOf D l → AreNotedContents (fmap.get D.contents l.1) (fmap.get N.contents l.1)

-- two durable states have the same notes, but for contents without a link
abbrev pub HaveSameLinkedNotes : DurableState → DurableState → Type 0
HaveSameLinkedNotes D E = (N : DurableState) × IsNotedWhereLinked D N × IsNotedWhereLinked E N

-- a catalog agrees with a durable state that has the same notes as this one, but for contents without a link
abbrev pub AgreesByLinkedNotes : TakenSessions → DurableState → Catalog → Type 0
AgreesByLinkedNotes taken D C = (E : DurableState) × HaveSameLinkedNotes E D × Agrees taken E C
