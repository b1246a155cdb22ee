-- What is set aside of a session.
use Rattle.std.specs.Prelude.{◌≡◌}
use Rattle.lq_env.specs.Environments.{Extends, mark_of}
use Rattle.lq_session.specs.declared.opened.Session.{Session}
use Rattle.lq_session.specs.declared.aside.Aside.{Aside}

-- how far the declarations came, and the open proof
abbrev pub aside_of : Session → Aside
aside_of s = record { mark = mark_of s.env; opened = s.opened }

-- a later session: declarations were only added, and the budgets are the same
pub record WentOn (before after : Session) : Type 0 where
  pub env : Extends before.env after.env
  pub steps : after.steps ≡ before.steps
  pub kernel : after.kernel ≡ before.kernel

-- a session before that one was set aside
pub record IsSetAside (a : Aside) (after : Session) : Type 0 where
  pub before : Session
  pub is : a ≡ aside_of before
  pub on : WentOn before after
