-- Where a term is checked.
use Rattle.std.specs.Prelude.{◌≡◌, List, option_map}
use Rattle.lq_terms.specs.declared.nodes.Hypothesis.{Hypothesis}
use Rattle.lq_terms.specs.Terms.{Terms}
use Rattle.lq_terms.specs.Contexts.{HasContext, context_of}
use Rattle.lq_solving.specs.Kept.{IsStore, IsContext}
use Rattle.lq_evars.specs.Places.{Places, store_of, HasStore}
use Rattle.lq_meaning.specs.Works.{context_at}
use Rattle.lq_sessions.specs.Sentences as sentences
use Rattle.lq_session.specs.declared.opened.Opened.{Opened}
use Rattle.lq_session.specs.declared.opened.Session.{Session}
use Rattle.lq_session.specs.Sessions.{opened_of}

-- the context of the first goal in focus, or the empty one
pub record IsHere (bank : Terms) (o : Opened) (c : List Hypothesis) : Type 0 where
  pub has : HasContext bank c
  pub is : context_of bank c ≡ context_at (store_of bank o.proof.store) o.proof.focus
  pub stands : IsContext (store_of bank o.proof.store) (context_of bank c)

-- the store and the context in which a session checks a term
pub record IsPlace (bank : Terms) (s : Session) (p : Places × List Hypothesis) : Type 0 where
  pub store : HasStore bank p.0
  pub kept : IsStore (store_of bank p.0)
  pub context : HasContext bank p.1
  pub stands : IsContext (store_of bank p.0) (context_of bank p.1)
  pub store_is : store_of bank p.0 ≡ sentences.store_of (option_map (opened_of bank) s.opened)
  pub context_is : context_of bank p.1 ≡ sentences.context_of (option_map (opened_of bank) s.opened)
