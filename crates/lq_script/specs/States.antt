-- A session as a whole.
use Rattle.lq_output.specs.Sentences.{State}
use Rattle.lq_script.specs.declared.session.Session.{Session}
use Rattle.lq_script.specs.Sessions as parts

-- the declarations so far, and where the script stands
abbrev pub state_of : Session → State
state_of s = parts.state_of s.bank s.env s.place

-- what is true of each session
abbrev pub IsSession : Session → Type 0
IsSession s = parts.IsSession s.bank s.env s.place
