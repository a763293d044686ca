use Rattle.tape.proofs.Sendings.{flushed}
use Rattle.tape.proofs.sending.send_now.Goals as goal

pub returns : goal.returns
returns g c = record { cases = flushed _ c.flush.result c.in_ok-send_unsent.ensures.cases c.flush.ensures.bytes c.flush.ensures.stays c.flush.ensures.fails }
