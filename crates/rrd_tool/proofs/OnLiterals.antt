-- What a proof unfolds to compute with the shapes of all commands.
use Rattle.std.specs.Prelude.{⊤}
use Rattle.rrd_tool.proofs.Names.{clap_on_literals, rrdi_app, create_app, fetch_app, first_app, resize_app, tune_app, update_app}

unfoldable pub shapes_on_literals : ⊤
unfolding rrdi_app create_app update_app fetch_app tune_app resize_app first_app clap_on_literals
shapes_on_literals = tt
