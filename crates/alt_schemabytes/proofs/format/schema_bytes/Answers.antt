-- The six parts of a description, one behind another.
use Rattle.std.proofs.Common.{◌∙◌, ◌∷◌, ◌++◌, ap}
use Rattle.std.proofs.lemmas.Result.{on_ok_weaker, on_err_weaker}
use Rattle.alt_schemabytes.specs.Format.{counted_list, view_byte, stream_bytes, definition_bytes, index_bytes, keys_bytes, head_bytes, description_bytes}
use Rattle.alt_base.proofs.Prefixes.{prefix_trans}
use Rattle.alt_schemabytes.proofs.Pieces.{six_pieces}
use Rattle.alt_schemabytes.proofs.format.schema_bytes.Goals as goal

pub returns-clause-appended : goal.returns-clause-appended
unfolding description_bytes
returns-clause-appended c =
    on_ok_weaker c.put_indexes-2.result
    (λ last. six_pieces c.args.out.now.items _ _ _ _ _ _ (head_bytes c.args.s.now)
    (view_byte c.args.s.now.view ∷ stream_bytes c.args.s.now.stream_family)
    (counted_list definition_bytes c.args.s.now.definitions)
    (keys_bytes c.args.s.now.hash c.args.s.now.range) (counted_list index_bytes c.args.s.now.locals)
    (counted_list index_bytes c.args.s.now.globals)
    c.in_ok-put_head.ensures.appended c.in_ok-put_stream.ensures.appended
    (c.in_ok-put_definitions.ensures.appended
    ∙ ap (λ ds. c.put_stream.new.out.items ++ counted_list definition_bytes ds)
    c.as_slice.ensures.members)
    c.in_ok-put_keys.ensures.appended
    (c.in_ok-put_indexes.ensures.appended
    ∙ ap (λ is. c.put_keys.new.out.items ++ counted_list index_bytes is)
    c.as_slice-2.ensures.members)
    (last ∙ ap (λ is. c.put_indexes.new.out.items ++ counted_list index_bytes is)
    c.as_slice-3.ensures.members))
    c.put_indexes-2.ensures.appended

pub returns-clause-begun : goal.returns-clause-begun
returns-clause-begun c =
    on_err_weaker c.put_indexes-2.result
    (λ last. prefix_trans c.args.out.now.items c.put_head.new.out.items
    c.put_indexes-2.new.out.items (_, c.in_ok-put_head.ensures.appended)
    (prefix_trans c.put_head.new.out.items c.put_stream.new.out.items c.put_indexes-2.new.out.items
    (_, c.in_ok-put_stream.ensures.appended)
    (prefix_trans c.put_stream.new.out.items c.put_definitions.new.out.items
    c.put_indexes-2.new.out.items (_, c.in_ok-put_definitions.ensures.appended)
    (prefix_trans c.put_definitions.new.out.items c.put_keys.new.out.items
    c.put_indexes-2.new.out.items (_, c.in_ok-put_keys.ensures.appended)
    (prefix_trans c.put_keys.new.out.items c.put_indexes.new.out.items c.put_indexes-2.new.out.items
    (_, c.in_ok-put_indexes.ensures.appended) last)))))
    c.put_indexes-2.ensures.begun
