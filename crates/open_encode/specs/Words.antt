-- What was judged, for the writer's own parts. Assumes nothing: this is a definition.
use Rattle.std.specs.Prelude.{◌≡◌}
use Rattle.wire.specs.Answers.{done}
use Rattle.connection.specs.declared.OpenOptions.{OpenOptions}
use Rattle.connection_words.specs.Fields.{word_of, parameter_word}

-- both words of parameters
abbrev pub GoodWords : OpenOptions → Type 0
GoodWords o =
    (parameter_word o.large_open o.o_t_params ≡ done (word_of o.large_open o.o_t_params))
    × (parameter_word o.large_open o.t_o_params ≡ done (word_of o.large_open o.t_o_params))
