use Rattle.ghes_notify.proofs.Falling.{call_order_in_order}
use Rattle.ghes_notify.proofs.laws.the_order_of_calls_falls.Goals as goal

pub returns : goal.returns
returns c tags = call_order_in_order tags
